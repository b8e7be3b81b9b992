use Rattle.std.proofs.Common.{ℕ, ◌≡◌, get_or, refl, ap, ◌∙◌}
use Rattle.std.proofs.lemmas.List.{get_or_read}
use Rattle.std.specs.FinMap as finite
use Rattle.kc_vms.specs.Stage2.{Table}
use Rattle.kc_vms.proofs.Rising.{empty-entries}
use Rattle.kc_vms.proofs.Filled.{served-ok, next-root, next-served, next-entries, next-leaves}
use Rattle.kc_vms.proofs.table.Stage2.map_all.Goals as goal

pub loop-entry-init : goal.loop-entry-init
loop-entry-init c = record {
  entries = ap finite.entries c.requires.empty ∙ empty-entries;
  leaves = refl;
  roots = refl;
  capacity = refl;
}

pub map-requires : goal.map-requires
map-requires c =
    let es = c.args.entries.now in
    let i = c.loop-entry.entry-index in
    let item : c.entry-item.result ≡ get_or es i (0, 0) = get_or_read es i c.entry-item.result c.loop-entry-test.true c.entry-item.is (0, 0) in
    rw c.loop-entry.invariant.roots (next-root c.args.self.now.roots c.args.self.now.capacity c.args.self.now.leaves es c.requires.mappings c.loop-entry.self i c.loop-entry-test.true c.loop-entry.invariant.entries c.loop-entry.invariant.leaves c.entry-item.result.0 (ap (λ (e : ℕ × ℕ). e.0) item))

pub unwrap-requires : goal.unwrap-requires
unwrap-requires c =
    let es = c.args.entries.now in
    let i = c.loop-entry.entry-index in
    let item : c.entry-item.result ≡ get_or es i (0, 0) = get_or_read es i c.entry-item.result c.loop-entry-test.true c.entry-item.is (0, 0) in
    served-ok c.map.result _ c.map.ensures.answer (next-served c.args.self.now.roots c.args.self.now.capacity c.args.self.now.leaves es c.requires.mappings c.loop-entry.self i c.loop-entry-test.true c.loop-entry.invariant.entries c.loop-entry.invariant.leaves c.entry-item.result.0 (ap (λ (e : ℕ × ℕ). e.0) item))

pub loop-entry-preserved : goal.loop-entry-preserved
loop-entry-preserved c =
    let es = c.args.entries.now in
    let i = c.loop-entry.entry-index in
    let item : c.entry-item.result ≡ get_or es i (0, 0) = get_or_read es i c.entry-item.result c.loop-entry-test.true c.entry-item.is (0, 0) in
    let mapped = rw c.unwrap.ensures at c.map.ensures.ok in
    let so_far = c.loop-entry.invariant in
    record {
      entries = ap (λ (t : Table). finite.entries t.mapped) mapped ∙ next-entries c.args.self.now.roots c.args.self.now.capacity c.args.self.now.leaves es c.requires.mappings c.loop-entry.self i c.loop-entry-test.true so_far.entries so_far.leaves c.entry-item.result.0 c.entry-item.result.1 (ap (λ (e : ℕ × ℕ). e.0) item) (ap (λ (e : ℕ × ℕ). e.1) item);
      leaves = ap (λ (t : Table). t.leaves) mapped ∙ next-leaves c.args.self.now.roots c.args.self.now.capacity c.args.self.now.leaves es c.requires.mappings c.loop-entry.self i c.loop-entry-test.true so_far.entries so_far.leaves c.entry-item.result.0 c.entry-item.result.1 (ap (λ (e : ℕ × ℕ). e.0) item);
      roots = ap (λ (t : Table). t.roots) mapped ∙ so_far.roots;
      capacity = ap (λ (t : Table). t.capacity) mapped ∙ so_far.capacity;
    }
