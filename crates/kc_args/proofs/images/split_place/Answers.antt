use Rattle.std.proofs.Common.{Some, None, arith}
use Rattle.std.proofs.lemmas.Str.Pattern.{split_once_first}
use Rattle.kc_args.proofs.Placed.{before_none, after_none}
use Rattle.kc_args.proofs.images.split_place.Goals as goal

pub returns-in-Some : goal.returns-in-Some
returns-in-Some c =
    let split = split_once_first 61 c.args.word.now (Some c.in-Some.parts) c.in-Some.ensures.cases (omega arith) in
    record { front = split.1; back = split.2 }

pub returns-in-None : goal.returns-in-None
returns-in-None c =
    let none = split_once_first 61 c.args.word.now None c.in-None.ensures.cases (omega arith) in
    record { front = before_none c.args.word.now none; back = after_none c.args.word.now none }
