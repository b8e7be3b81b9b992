use Rattle.std.proofs.Common.{List, ℕ, ◌++◌, ◌∙◌, ap}
use Rattle.std.specs.Prelude.{codes}
use Rattle.kc_state_text.proofs.Appended.{sizes-written}
use Rattle.kc_state_text.proofs.writing.push_sizes.Goals as goal

pub returns : goal.returns
returns c = sizes-written c.args.sizes c.args.text.now.items c.push_bytes.new.text.items c.push_number.new.text.items c.push_number-2.new.text.items c.push_number-3.new.text.items c.push_number-4.new.text.items c.push_bytes-2.new.text.items
    (c.push_bytes.ensures.items ∙ ap (λ (l : List ℕ). l ++ codes "config") c.in_ok-reserve.ensures.items)
    c.push_number.ensures.items c.push_number-2.ensures.items c.push_number-3.ensures.items c.push_number-4.ensures.items c.push_bytes-2.ensures.items
