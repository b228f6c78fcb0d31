use Rattle.std.proofs.Common.{◌≡◌, ◌<◌, ◌-◌, ◌++◌, ◌∷◌, [], ℕ, true, false, ap, get_or, subst, sym, ◌∙◌}
use Rattle.std.specs.Prelude.{Option, Some, IfSome, IfNone, IsSomeAnd}
use Rattle.std.specs.Option.{option_to_list}
use Rattle.vb_types.specs.Histories.{upto}
use Rattle.vb_types.specs.declared.change.Change.{Change}
use Rattle.checkpoint.specs.Runs.{AreEntries, changes_there, is_above, last_entry}
use Rattle.checkpoint.proofs.Runs.{all_up_to, change_popped, entries_before, gone_behind}
use Rattle.checkpoint.proofs.holes.pop_last_above.Goals as goal

pub returns-then-not-ends_above-clause-none : goal.returns-then-not-ends_above-clause-none
returns-then-not-ends_above-clause-none c =
    let d = c.drop_holes_behind.ensures in
    let es = c.drop_holes_behind.new.entries.items in
    let low : is_above c.args.last (last_entry es) ≡ false = sym (ap (λ xs. is_above c.args.last (last_entry xs)) c.deref.ensures.value) ∙ sym c.ends_above.ensures ∙ c.if-not-ends_above.true in
    (d.there, ap (λ cs. upto cs c.args.last) (sym d.there) ∙ all_up_to c.args.last 0 es d.entries low ∙ d.there)

-- the change that was taken is the last one
gone : (c : goal.In_ok-change)
    → IfSome c.in_ok-change.change (λ x. (changes_there c.args.entries.now.items ≡ changes_there c.pop.new.self.items ++ x ∷ []) × (c.args.last < x.seq)) × ((X : Type 0) → IfNone c.in_ok-change.change X)
gone c =
    let d = c.drop_holes_behind.ensures in
    let v = c.drop_holes_behind.new.entries in
    let es = v.items in
    let front = c.pop.new.self.items in
    let high : is_above c.args.last (last_entry es) ≡ true = sym (ap (λ xs. is_above c.args.last (last_entry xs)) c.deref.ensures.value) ∙ sym c.ends_above.ensures ∙ c.if-not-ends_above.false in
    let there = change_popped c.args.last 0 es front c.pop.result d.entries d.ends high (record {
      items = c.pop.ensures.items;
      value = subst (λ n. (e : ℕ × Option Change) → 0 < n → c.pop.result ≡ Some (get_or es (n - 1) e)) v.ok.0 c.pop.ensures.value;
    }) in
    gone_behind c.args.last (changes_there c.args.entries.now.items) (changes_there es) (changes_there front) c.in_ok-change.change d.there
    (subst (λ o. IsSomeAnd o (λ e. IsSomeAnd e.1 (λ x. (changes_there es ≡ changes_there front ++ x ∷ []) × (c.args.last < x.seq)))) c.in_ok-change.was there)

pub returns-clause-some : goal.returns-clause-some
returns-clause-some c = (gone c).0

pub returns-clause-none : goal.returns-clause-none
returns-clause-none c = (gone c).1 _

pub returns-clause-entries : goal.returns-clause-entries
returns-clause-entries c = entries_before 0 c.pop.new.self.items (option_to_list c.pop.result) (subst (AreEntries 0) c.pop.ensures.items c.drop_holes_behind.ensures.entries)
