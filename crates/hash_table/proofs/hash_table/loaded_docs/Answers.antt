use Rattle.std.proofs.Common.{◌≡◌, ap, ◌∙◌, map}
use Rattle.std.specs.FinMap as finite
use Rattle.hash_table.specs.Tables.{put_all}
use Rattle.hash_table.proofs.Puts.{put_entries}
use Rattle.hash_table.proofs.hash_table.loaded_docs.Goals as goal

pub returns : goal.returns
returns c =
    let ds = map (λ p. (p.0.now, p.1.now)) c.deref.result.now in
    let listed : ds ≡ finite.entries c.args.image.now.docs = ap (map (λ p. (p.0.now, p.1.now))) c.deref.ensures.value ∙ c.in_ok-listed.ensures ∙ ap finite.entries c.docs.ensures in
    c.in_ok-load_docs.ensures ∙ ap (λ m. put_all m ds) c.new-table.ensures ∙ ap (put_all finite.empty) listed ∙ put_entries c.args.image.now.docs
