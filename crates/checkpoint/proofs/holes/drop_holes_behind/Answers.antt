use Rattle.std.proofs.Common.{◌≡◌, ◌<◌, ◌-◌, ℕ, true, arith, ap, get_or, subst, sym, ◌∙◌}
use Rattle.std.specs.Prelude.{Option, Some}
use Rattle.vb_types.specs.declared.change.Change.{Change}
use Rattle.checkpoint.specs.Runs.{is_hole, last_entry}
use Rattle.checkpoint.proofs.Runs.{hole_popped}
use Rattle.checkpoint.proofs.holes.drop_holes_behind.Goals as goal

pub loop-entries-preserved : goal.loop-entries-preserved
loop-entries-preserved c =
    let k = c.loop-entries.invariant in
    let es = c.loop-entries.entries in
    let hole : is_hole (last_entry es.items) ≡ true = sym (ap (λ xs. is_hole (last_entry xs)) c.deref.ensures.value) ∙ sym c.ends_in_hole.ensures ∙ c.loop-entries-test.true in
    let gone = hole_popped 0 es.items c.pop.new.self.items c.pop.result k.entries hole (record {
      items = c.pop.ensures.items;
      value = subst (λ n. (d : ℕ × Option Change) → 0 < n → c.pop.result ≡ Some (get_or es.items (n - 1) d)) es.ok.0 c.pop.ensures.value;
    }) in
    record {
      there = gone.there ∙ k.there;
      entries = gone.entries;
      fewer = omega (arith, gone.fewer, k.fewer);
    }
