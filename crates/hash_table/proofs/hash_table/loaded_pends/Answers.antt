use Rattle.std.proofs.Common.{◌≡◌, ap, ◌∙◌, map}
use Rattle.std.specs.FinMap as finite
use Rattle.hash_table.specs.Tables.{put_all}
use Rattle.hash_table.proofs.Loads.{put_moved}
use Rattle.hash_table.proofs.hash_table.loaded_pends.Goals as goal

pub returns : goal.returns
returns c =
    let ps = map (λ p. (p.0.now, p.1.now)) c.deref.result.now in
    let listed = c.in_ok-listed.ensures ∙ ap finite.entries c.prepares.ensures in
    let pends : put_all finite.empty ps ≡ c.args.image.now.pending = ap (λ qs. put_all finite.empty (map (λ p. (p.0.now, p.1.now)) qs)) c.deref.ensures.value
    ∙ put_moved (λ p. (p.0.now, p.1.now)) c.in_ok-listed.listed.items c.sort_by_key.new.self.items c.args.image.now.pending listed c.sort_by_key.ensures.permutation in
    c.in_ok-load_pends.ensures ∙ ap (λ m. put_all m ps) c.new-table.ensures ∙ pends
