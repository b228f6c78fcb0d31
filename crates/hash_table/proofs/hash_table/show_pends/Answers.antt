use Rattle.std.proofs.Common.{◌≡◌, ap, ◌∙◌, map}
use Rattle.std.specs.FinMap as finite
use Rattle.std.proofs.lemmas.Result.{on_ok_weaker}
use Rattle.hash_table.specs.Tables.{put_all}
use Rattle.hash_table.proofs.Puts.{put_from_empty}
use Rattle.hash_table.proofs.hash_table.show_pends.Goals as goal

pub returns : goal.returns
returns c =
    let es = map (λ p. (p.0.now, p.1.now)) c.deref.result.now in
    let all : put_all finite.empty es ≡ c.args.pending.now.map = put_from_empty es ∙ ap (λ xs. finite.from_entries (map (λ p. (p.0.now, p.1.now)) xs)) c.deref.ensures.value ∙ c.in_ok-listed.ensures in
    on_ok_weaker c.put_pends.result (λ put. put ∙ (λ i. record c.args.image.now { pending = (ap (λ m. put_all m es) c.requires ∙ all) i })) c.put_pends.ensures
