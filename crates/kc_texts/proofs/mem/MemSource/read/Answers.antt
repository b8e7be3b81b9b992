use Rattle.std.proofs.Common.{◌≡◌, ◌≤◌, length, take, drop, arith, ap, ◌∙◌, length-append}
use Rattle.std.proofs.lemmas.List.{length-take, length-drop}
use Rattle.kc_texts.proofs.Bytes.{read_part}
use Rattle.kc_texts.proofs.mem.MemSource.read.Goals as goal

pub returns-clause-bytes : goal.returns-clause-bytes
returns-clause-bytes c =
    let bytes = c.args.self.now.bytes.items in
    let from = c.args.self.now.position in
    let n = c.min-n.result in
    let rest_is : c.split_at.result.1.now ≡ drop from bytes = rw c.as_slice.ensures.value at c.split_at.ensures.back in
    let copied : c.copy_from_slice.new.self ≡ take n (drop from bytes) = c.copy_from_slice.ensures.after ∙ c.split_at-2.ensures.front ∙ ap (take n) rest_is in
    let n_is = c.min-n.ensures in
    let rest_len = ap length rest_is in
    let within : n ≤ length (drop from bytes) = omega (arith, n_is, rest_len) in
    (rw copied (read_part bytes c.args.buffer.now from n within), λ none some. absurd (omega (arith, none, n_is, rest_len, length-drop from bytes, length-append c.copy_from_slice.new.self (drop n c.args.buffer.now), length-drop n c.args.buffer.now, ap length copied, length-take n (drop from bytes), c.len.ensures, c.if-self-len.false, c.args.self.now.bytes.ok.0, some)))
