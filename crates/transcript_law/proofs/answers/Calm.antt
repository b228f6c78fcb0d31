-- no set and no removal waits to be answered: behind an answer, and behind changes of durable writes
use Rattle.std.specs.Prelude.{◌≡◌, ◌==◌, ◌∷◌, if◌then◌else◌}
use Rattle.std.specs.List.{filter}
use Rattle.transcript_law.proofs.Words.{ℕ, Bool, true, false, List, [], refl, ap, sym, Act, All, All-append, All-cons, All-head, All-nil, All-tail, Change, Chronicle, Option, Some, None, Plain, after_change, after_lines, is_active}
use Rattle.transcript_law.proofs.verbs.Settling.{changes_told}
use Rattle.transcript_law.specs.LawfulAnswers.{AllDurable}
use Rattle.transcript_law.specs.LinesTold.{OwnChange, is_durable}
use Rattle.durability.specs.declared.waiting.Waiting.{Waiting}
use Rattle.vb_calls.specs.{Following.{committed_act}, Settling.{Resolving, committed_by, may_commit, resolving_change, settled, settled_from, unresolved}, State.{pending_of}}
use Rattle.vb_types.specs.declared.change.Act.TheVariants as act
use Rattle.vb_types.specs.declared.change.Pend.{Pend}

-- an answer is a set's or a removal's that waited
pub durable_left : (made : List OwnChange) → AllDurable (filter (λ m. is_durable m.change.act) made)
durable_left [] = tt
durable_left (m ∷ more) = by (is_durable m.change.act) refl (durable_left more)
  where
    by : (b : Bool) → is_durable m.change.act ≡ b → AllDurable (filter (λ m. is_durable m.change.act) more) → AllDurable (if b then m ∷ filter (λ m. is_durable m.change.act) more else filter (λ m. is_durable m.change.act) more)
    by true e rest = (e, rest)
    by false e rest = rest

-- a durable write's change
abbrev pub OfDurable : Change → Type 0
OfDurable c = is_durable c.act ≡ true

-- such changes were told
pub durable_told : (r : Chronicle) (n v uuid : ℕ) (cs : List Change) → All OfDurable cs → AllDurable r.made → AllDurable (after_lines r (changes_told n v uuid cs)).made
durable_told r n v uuid [] all calm = calm
durable_told r n v uuid (c ∷ cs) all calm = durable_told (after_change r n v uuid c) n v uuid cs (All-tail OfDurable c cs all) (All-head OfDurable c cs all, calm)

-- a commit is such a change
commit_durable : (q : ℕ) (pend : Option Pend) (a : Act) → committed_act q pend ≡ Some a → is_durable a ≡ true
commit_durable q None a e = cc
commit_durable q (Some p) a e = by (p.seq == q) e
  where
    by : (b : Bool) → (if b then Some (act.Commit q p.doc p.deleted) else None) ≡ Some a → is_durable a ≡ true
    by true k = let is : act.Commit q p.doc p.deleted ≡ a = cc in ap is_durable (sym is)
    by false k = cc

-- what a vBucket commits of its own are such
settled_durable : (ws : List Waiting) (s : Resolving) → All OfDurable s.changes → All OfDurable (settled_from ws s).changes
settled_durable [] s all = all
settled_durable (w ∷ more) s all = by (may_commit s.vb w) (λ t. settled_durable more t)
  where
    with_act : (o : Option Act) → committed_act w.seq (pending_of s.vb w.key) ≡ o → ((t : Resolving) → All OfDurable t.changes → All OfDurable (settled_from more t).changes) → All OfDurable (committed_by o w (settled_from more) s).changes
    with_act None e rest = all
    with_act (Some a) e rest =
        let c : Change = resolving_change s.vb w a in
        rest _ (All-append OfDurable s.changes (c ∷ []) all (All-cons OfDurable c [] (commit_durable w.seq (pending_of s.vb w.key) a e) (All-nil OfDurable)))

    by : (b : Bool) → ((t : Resolving) → All OfDurable t.changes → All OfDurable (settled_from more t).changes) → All OfDurable (if b then committed_by (committed_act w.seq (pending_of s.vb w.key)) w (settled_from more) s else s).changes
    by true rest = with_act (committed_act w.seq (pending_of s.vb w.key)) refl rest
    by false rest = all

pub durable_settled : (vb : Plain) → All OfDurable (settled vb).changes
durable_settled vb = by (is_active vb.role)
  where
    by : (b : Bool) → All OfDurable (if b then settled_from vb.waiting (unresolved vb) else unresolved vb).changes
    by true = settled_durable vb.waiting (unresolved vb) (All-nil OfDurable)
    by false = All-nil OfDurable
