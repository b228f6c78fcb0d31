use Rattle.std.proofs.Common.{rules, ◌≡◌, eqb, ap, subst, ◌∙◌}
use Rattle.std.specs.Prelude.{OnOk, is_some}
use Rattle.std.specs.FinMap as map
use Rattle.std.specs.List.{filter}
use Rattle.std.proofs.lemmas.Map.Made.{filter_same_pairs}
use Rattle.cursor_set.specs.Cursors.{place_of}
use Rattle.cursor_set.proofs.Finds.{alone, kept_zero}
use Rattle.cursor_set.proofs.cursor_set.CursorSet.reset.Goals as goal

pub unwrap-requires : goal.unwrap-requires
unwrap-requires c =
    let kept : c.retain.new.self.entries ≡ filter (λ e. eqb e.0 0) c.self.inside.places.entries =
    filter_same_pairs _ (λ e. eqb e.0 0) _ (λ k v b w f' t. search rules) _ _ c.retain.ensures.filtered in
    c.put-put.ensures.there (ap is_some (kept_zero c.self.inside.places.entries _ kept ∙ ap (λ m. place_of m 0) c.self.view_is) ∙ c.requires)

pub returns : goal.returns
returns c =
    let kept : c.retain.new.self.entries ≡ filter (λ e. eqb e.0 0) c.self.inside.places.entries =
    filter_same_pairs _ (λ e. eqb e.0 0) _ (λ k v b w f' t. search rules) _ _ c.retain.ensures.filtered in
    let put = subst (λ r. OnOk r (c.put-put.new.self ≡ map.insert (map.from_entries c.retain.new.self.entries) 0 c.args.place)) c.unwrap.ensures c.put-put.ensures.ok in
    put ∙ alone c.self.inside.places.entries _ c.args.place kept
