use Rattle.std.proofs.Common.{◌≡◌, ℕ, List, cond, subst}
use Rattle.std.specs.Prelude.{Some, IfOk, OnOk}
use Rattle.std.specs.HashMap as hash
use Rattle.std.specs.Str.{bytes_eq}
use Rattle.std.proofs.lemmas.Result.{on_ok_weaker}
use Rattle.checkpoint.proofs.entries.place.Goals as goal

pub returns-clause-seqs : goal.returns-clause-seqs
returns-clause-seqs c =
    subst (λ r. OnOk r ((q : List ℕ) → hash.get bytes_eq c.insert-placed.new.self q ≡ cond (bytes_eq c.args.key q) (Some c.args.seq) (hash.get bytes_eq c.args.seqs.now q)))
    c.unwrap.ensures (on_ok_weaker c.insert-placed.result (λ u. u.0) c.insert-placed.ensures.updates)

pub returns-clause-earlier : goal.returns-clause-earlier
returns-clause-earlier c = subst (λ r. IfOk r (λ old. old ≡ hash.get bytes_eq c.args.seqs.now c.args.key)) c.unwrap.ensures c.insert-placed.ensures.old
