-- outcomes of durable writes that were committed or given up by changes that were told before, in the same group, or by a role
use Rattle.std.specs.Prelude.{◌≡◌, ◌≢◌, ◌⊎◌, ◌==◌, ◌∷◌, if◌then◌else◌}
use Rattle.std.specs.List.{filter}
use Rattle.transcript_law.proofs.Words.{ℕ, Bool, true, false, List, [], refl, ap, sym, ◌∙◌, subst, inl, inr, ⊎_elim, Option, Some, All, All-append, All-nil, All-cons, All-weaker, Change, Chronicle, Event, IsIn, Pend, Plain, Role, StreamName, AskAnswer, after_change, after_line, after_lines, eqb-false, is_active}
use Rattle.transcript_law.proofs.{answers.{Awaited.{Stood}, Explained.{GivesUp, IsExplained}}, lines.ClientLines.{AreOfClients, kept_beside}, verbs.Settling.{changes_told}}
use Rattle.transcript_law.specs.LawfulAnswers.{IsMadeIn}
use Rattle.transcript_law.specs.LawfulClients.{IsActive}
use Rattle.transcript_law.specs.LinesTold.{OwnChange, is_durable}
use Rattle.vb_calls.specs.declared.calls.{Resolved.{Resolved}, VbCall.{VbCall}}
use Rattle.vb_calls.specs.declared.calls.Resolution.TheVariants.{Ambiguous, Committed}
use Rattle.durability.specs.{Laws.{IsLate, Waits}, declared.waiting.Waiting.{Waiting}}
use Rattle.vb_calls.specs.Settling.{given_up, outcome_for}
use Rattle.vb_types.specs.declared.change.Act.TheVariants.{Abort, Commit}
use Rattle.vb_types.specs.declared.role.Role.TheVariants.{Active}

-- a commit of this branch, seqno and CAS was told at the node n, of a prepare that waited under this number, of which it is claimed whose it was
pub record CommitTold (n : ℕ) (made : List OwnChange) (Claim : ℕ → Waiting → Pend → Type 0) (waiter branch seq cas : ℕ) : Type 0 where
  pub one : OwnChange
  pub among : IsMadeIn one made
  pub here : one.node ≡ n
  pub branch_is : one.branch ≡ branch
  pub seq_is : one.change.seq ≡ seq
  pub x : Waiting
  pub p : Pend
  pub key_is : one.change.key ≡ x.key
  pub commits : one.change.act ≡ Commit x.seq p.doc p.deleted
  pub cas_is : p.doc.cas ≡ cas
  pub number : x.waiter ≡ waiter
  pub claim : Claim one.vb x p

-- a prepare was given up once its time was up: its abort was told at the vBucket v of the node n
pub record AbortTold (n v : ℕ) (x : Waiting) (made : List OwnChange) : Type 0 where
  pub one : OwnChange
  pub among : IsMadeIn one made
  pub node : one.node ≡ n
  pub vb : one.vb ≡ v
  pub key_is : one.change.key ≡ x.key
  pub aborts : one.change.act ≡ Abort x.seq
  pub late : IsLate one.clock x

-- it waits no more: its vBucket is not active any more, or gave it up
abbrev pub IsGone : ℕ → ℕ → Option (Option Role) → Waiting → List OwnChange → Type 0
IsGone n v role x made = (IsActive role → ⊥) ⊎ AbortTold n v x made

-- nobody knows what became of a prepare that waited under this number at the node n, of which it is claimed whose it was: it waits no more
pub record LostTold (n : ℕ) (r : Chronicle) (Claim : ℕ → Waiting → Pend → Type 0) (waiter : ℕ) : Type 0 where
  pub v : ℕ
  pub x : Waiting
  pub p : Pend
  pub number : x.waiter ≡ waiter
  pub claim : Claim v x p
  pub lost : IsGone n v (r.role_at n v) x r.made

-- what became of a durable write was told: its commit, or that its prepare waits no more
pub record HowTold (n : ℕ) (r : Chronicle) (Claim : ℕ → Waiting → Pend → Type 0) (o : Resolved) : Type 0 where
  pub committed : (branch seq cas : ℕ) → o.how ≡ Committed branch seq cas → CommitTold n r.made Claim o.waiter branch seq cas
  pub lost : o.how ≡ Ambiguous → LostTold n r Claim o.waiter

-- and of each outcome
abbrev pub AllHowTold : ℕ → Chronicle → (ℕ → Waiting → Pend → Type 0) → List Resolved → Type 0
AllHowTold n r Claim rs = All (HowTold n r Claim) rs

-- what is claimed may be another
commit_claimed : (n : ℕ) (made : List OwnChange) (Claim Claim' : ℕ → Waiting → Pend → Type 0) (waiter branch seq cas : ℕ) → ((v : ℕ) (x : Waiting) (p : Pend) → Claim v x p → Claim' v x p) → CommitTold n made Claim waiter branch seq cas → CommitTold n made Claim' waiter branch seq cas
commit_claimed n made Claim Claim' waiter branch seq cas so t = record {
  one = t.one;
  among = t.among;
  here = t.here;
  branch_is = t.branch_is;
  seq_is = t.seq_is;
  x = t.x;
  p = t.p;
  key_is = t.key_is;
  commits = t.commits;
  cas_is = t.cas_is;
  number = t.number;
  claim = so t.one.vb t.x t.p t.claim;
}

lost_claimed : (n : ℕ) (r : Chronicle) (Claim Claim' : ℕ → Waiting → Pend → Type 0) (waiter : ℕ) → ((v : ℕ) (x : Waiting) (p : Pend) → Claim v x p → Claim' v x p) → LostTold n r Claim waiter → LostTold n r Claim' waiter
lost_claimed n r Claim Claim' waiter so t = record { v = t.v; x = t.x; p = t.p; number = t.number; claim = so t.v t.x t.p t.claim; lost = t.lost }

pub all_claimed : (n : ℕ) (r : Chronicle) (Claim Claim' : ℕ → Waiting → Pend → Type 0) (rs : List Resolved) → ((v : ℕ) (x : Waiting) (p : Pend) → Claim v x p → Claim' v x p) → AllHowTold n r Claim rs → AllHowTold n r Claim' rs
all_claimed n r Claim Claim' rs so all =
    All-weaker (HowTold n r Claim) (HowTold n r Claim') (λ o t. record {
      committed = λ branch seq cas is. commit_claimed n r.made Claim Claim' o.waiter branch seq cas so (t.committed branch seq cas is);
      lost = λ is. lost_claimed n r Claim Claim' o.waiter so (t.lost is);
    }) rs all

-- it is so where the same is read of roles and of changes
lost_read : (n : ℕ) (q r : Chronicle) (Claim : ℕ → Waiting → Pend → Type 0) (waiter : ℕ) → r.made ≡ q.made → r.role_at ≡ q.role_at → LostTold n q Claim waiter → LostTold n r Claim waiter
lost_read n q r Claim waiter made role t = record {
  v = t.v;
  x = t.x;
  p = t.p;
  number = t.number;
  claim = t.claim;
  lost = subst (λ (f : ℕ → ℕ → Option (Option Role)). IsGone n t.v (f n t.v) t.x r.made) (sym role) (subst (IsGone n t.v (q.role_at n t.v) t.x) (sym made) t.lost);
}

pub all_read : (n : ℕ) (q r : Chronicle) (Claim : ℕ → Waiting → Pend → Type 0) (rs : List Resolved) → r.made ≡ q.made → r.role_at ≡ q.role_at → AllHowTold n q Claim rs → AllHowTold n r Claim rs
all_read n q r Claim rs made role all =
    All-weaker (HowTold n q Claim) (HowTold n r Claim) (λ o t. record {
      committed = λ branch seq cas is. subst (λ m. CommitTold n m Claim o.waiter branch seq cas) (sym made) (t.committed branch seq cas is);
      lost = λ is. lost_read n q r Claim o.waiter made role (t.lost is);
    }) rs all

-- ---- a change that was told

-- is told as long as it is durable, whatever lines follow
pub kept_made : (P : OwnChange → Bool) (one : OwnChange) (made : List OwnChange) → P one ≡ true → IsMadeIn one made → IsMadeIn one (filter P made)
kept_made P one [] stays i = absurd i
kept_made P one (x ∷ xs) stays i = by (λ j. kept_made P one xs stays j) (P x) refl i
  where
    by : (IsMadeIn one xs → IsMadeIn one (filter P xs)) → (b : Bool) → P x ≡ b → (one ≡ x) ⊎ IsMadeIn one xs → IsMadeIn one (if b then x ∷ filter P xs else filter P xs)
    by rest true e (inl same) = inl same
    by rest true e (inr j) = inr (rest j)
    by rest false e (inl same) = let z : true ≡ false = sym stays ∙ ap P same ∙ e in cc
    by rest false e (inr j) = rest j

made_past : (r : Chronicle) (line : Event) (one : OwnChange) → is_durable one.change.act ≡ true → IsMadeIn one r.made → IsMadeIn one (after_line r line).made
made_past r (Event.Changed n v uuid change) one durable i = inr i
made_past r (Event.Reply n k bytes) one durable i = kept_made (λ m. is_durable m.change.act) one r.made durable i
made_past r (Event.Asked (StreamName.Link l) n v ask high log AskAnswer.Go) one durable i = i
made_past r (Event.Asked (StreamName.Link l) n v ask high log (AskAnswer.Roll to)) one durable i = i
made_past r (Event.Asked (StreamName.Link l) n v ask high log (AskAnswer.Refuse code)) one durable i = i
made_past r (Event.Asked (StreamName.Client m k) n v ask high log said) one durable i = i
made_past r (Event.Marked (StreamName.Link l) start end flags) one durable i = i
made_past r (Event.Marked (StreamName.Client m k) start end flags) one durable i = i
made_past r (Event.Item (StreamName.Link l) seq act key) one durable i = i
made_past r (Event.Item (StreamName.Client m k) seq act key) one durable i = i
made_past r (Event.Finished (StreamName.Link l) reason) one durable i = i
made_past r (Event.Finished (StreamName.Client m k) reason) one durable i = i
made_past r (Event.Stated (StreamName.Link l) role) one durable i = i
made_past r (Event.Stated (StreamName.Client m k) role) one durable i = i
made_past r other one durable i = i

pub made_on : (r : Chronicle) (lines : List Event) (one : OwnChange) → is_durable one.change.act ≡ true → IsMadeIn one r.made → IsMadeIn one (after_lines r lines).made
made_on r [] one durable i = i
made_on r (line ∷ lines) one durable i = made_on (after_line r line) lines one durable (made_past r line one durable i)

commit_on : (r : Chronicle) (lines : List Event) (n : ℕ) (Claim : ℕ → Waiting → Pend → Type 0) (waiter branch seq cas : ℕ) → CommitTold n r.made Claim waiter branch seq cas → CommitTold n (after_lines r lines).made Claim waiter branch seq cas
commit_on r lines n Claim waiter branch seq cas t = record {
  one = t.one;
  among = made_on r lines t.one (ap is_durable t.commits) t.among;
  here = t.here;
  branch_is = t.branch_is;
  seq_is = t.seq_is;
  x = t.x;
  p = t.p;
  key_is = t.key_is;
  commits = t.commits;
  cas_is = t.cas_is;
  number = t.number;
  claim = t.claim;
}

-- an abort stays told; and lines of clients tell of no role
lost_on : (r : Chronicle) (lines : List Event) → AreOfClients lines → (n : ℕ) (Claim : ℕ → Waiting → Pend → Type 0) (waiter : ℕ) → LostTold n r Claim waiter → LostTold n (after_lines r lines) Claim waiter
lost_on r lines clients n Claim waiter t = record {
  v = t.v;
  x = t.x;
  p = t.p;
  number = t.number;
  claim = t.claim;
  lost = ⊎_elim
      (λ off. inl (λ on. off (ap (λ (f : ℕ → ℕ → Option (Option Role)). f n t.v) (sym (kept_beside (λ q. q.role_at) (λ q m u uuid change. refl) (λ q line. refl) r lines clients)) ∙ on)))
      (λ a. inr (record { one = a.one; among = made_on r lines a.one (ap is_durable a.aborts) a.among; node = a.node; vb = a.vb; key_is = a.key_is; aborts = a.aborts; late = a.late })) t.lost;
}

pub all_on : (r : Chronicle) (lines : List Event) → AreOfClients lines → (n : ℕ) (Claim : ℕ → Waiting → Pend → Type 0) (rs : List Resolved) → AllHowTold n r Claim rs → AllHowTold n (after_lines r lines) Claim rs
all_on r lines clients n Claim rs all =
    All-weaker (HowTold n r Claim) (HowTold n (after_lines r lines) Claim) (λ o t. record {
      committed = λ branch seq cas is. commit_on r lines n Claim o.waiter branch seq cas (t.committed branch seq cas is);
      lost = λ is. lost_on r lines clients n Claim o.waiter (t.lost is);
    }) rs all

-- each of these is told
later_told : (r : Chronicle) (n v uuid : ℕ) (cs : List Change) (one : OwnChange) → IsMadeIn one r.made → IsMadeIn one (after_lines r (changes_told n v uuid cs)).made
later_told r n v uuid [] one i = i
later_told r n v uuid (c ∷ cs) one i = later_told (after_change r n v uuid c) n v uuid cs one (inr i)

pub change_told : (r : Chronicle) (n v uuid : ℕ) (cs : List Change) (c : Change) → IsIn c cs → IsMadeIn (record { node = n; vb = v; branch = uuid; change = c; clock = r.clock_at n }) (after_lines r (changes_told n v uuid cs)).made
change_told r n v uuid [] c i = absurd i
change_told r n v uuid (x ∷ xs) c (inl same) =
    later_told (after_change r n v uuid x) n v uuid xs (record { node = n; vb = v; branch = uuid; change = c; clock = r.clock_at n }) (inl (ap (λ y. record { node = n; vb = v; branch = uuid; change = y; clock = r.clock_at n }) same))
change_told r n v uuid (x ∷ xs) c (inr j) = change_told (after_change r n v uuid x) n v uuid xs c j

-- a call by which time goes on was made with what a clock shows
abbrev pub IsTimed : VbCall → ℕ → Type 0
IsTimed (VbCall.Tick clock) shown = shown ≡ clock
IsTimed other shown = Unit {0}

-- so the abort of what a call gave up is told
abort_told : (r : Chronicle) (n v uuid : ℕ) (cs : List Change) (made : VbCall) (w : Waiting) → IsTimed made (r.clock_at n) → GivesUp made cs w → AbortTold n v w (after_lines r (changes_told n v uuid cs)).made
abort_told r n v uuid cs (VbCall.Tick clock) w shows (k, late) = record {
  one = record { node = n; vb = v; branch = uuid; change = k.change; clock = r.clock_at n };
  among = change_told r n v uuid cs k.change k.there;
  node = refl;
  vb = refl;
  key_is = k.key_is;
  aborts = k.act_is;
  late = subst (λ now. IsLate now w) (sym shows) late;
}
abort_told r n v uuid cs other w shows g = absurd g

-- so each outcome of a call is told, once the changes of its reply are, with what is claimed of each prepare that waited at its vBucket
explained_told : (r : Chronicle) (n v branch : ℕ) (Claim : ℕ → Waiting → Pend → Type 0) (changes : List Change) (vb : Plain) (made : VbCall) → IsTimed made (r.clock_at n) → ((w : Waiting) (p : Pend) → w.waiter ≢ 0 → Stood vb made w p → Claim v w p) → (o : Resolved) → IsExplained vb made branch changes o
    → HowTold n (after_lines r (changes_told n v branch changes)) Claim o
explained_told r n v branch Claim changes vb made shows claims o x = record {
  committed = λ uuid seq cas is.
      let (same, has) = x.commits uuid seq cas is in record {
        one = record { node = n; vb = v; branch = branch; change = has.change; clock = r.clock_at n };
        among = change_told r n v branch changes has.change has.there;
        here = refl;
        branch_is = sym same;
        seq_is = has.seq_is;
        x = x.w;
        p = x.p;
        key_is = has.key_is;
        commits = has.act_is;
        cas_is = has.cas_is;
        number = x.number;
        claim = claim;
      };
  lost = λ is. record { v = v; x = x.w; p = x.p; number = x.number; claim = claim; lost = inr (abort_told r n v branch changes made x.w shows (x.lost is)) };
}
  where
    claim : Claim v x.w x.p
    claim = claims x.w x.p (λ e. x.some (sym x.number ∙ e)) x.stood

pub all_told : (r : Chronicle) (n v branch : ℕ) (Claim : ℕ → Waiting → Pend → Type 0) (changes : List Change) (vb : Plain) (made : VbCall) (rs : List Resolved) → IsTimed made (r.clock_at n) → ((w : Waiting) (p : Pend) → w.waiter ≢ 0 → Stood vb made w p → Claim v w p) → All (IsExplained vb made branch changes) rs
    → AllHowTold n (after_lines r (changes_told n v branch changes)) Claim rs
all_told r n v branch Claim changes vb made rs shows claims all =
    All-weaker (IsExplained vb made branch changes) (HowTold n (after_lines r (changes_told n v branch changes)) Claim) (λ o x. explained_told r n v branch Claim changes vb made shows claims o x) rs all

-- where a vBucket is in another role all that waited there are given up, and none is committed
pub lost_told : (n v : ℕ) (r : Chronicle) (Claim : ℕ → Waiting → Pend → Type 0) (role : Role) → r.role_at n v ≡ Some (Some role) → is_active role ≡ false → (ws : List Waiting) → ((w : Waiting) → w.waiter ≢ 0 → Waits w ws → (p : Pend) × Claim v w p) → AllHowTold n r Claim (given_up ws)
lost_told n v r Claim role known rests [] claims = All-nil (HowTold n r Claim)
lost_told n v r Claim role known rests (w ∷ ws) claims =
    All-append (HowTold n r Claim) (outcome_for w.waiter Ambiguous) (given_up ws) (by (w.waiter == 0) refl) (lost_told n v r Claim role known rests ws (λ x some i. claims x some (inr i)))
  where
    off : IsActive (r.role_at n v) → ⊥
    off on = let both : Some (Some role) ≡ Some (Some Active) = sym known ∙ on in let same : role ≡ Active = cc in let z : false ≡ true = sym rests ∙ ap is_active same in cc

    told : w.waiter ≢ 0 → HowTold n r Claim (record { waiter = w.waiter; how = Ambiguous })
    told some = let (p, claim) = claims w some (inl refl) in record { committed = λ branch seq cas e. cc; lost = λ e. record { v = v; x = w; p = p; number = refl; claim = claim; lost = inl off } }

    by : (b : Bool) → (w.waiter == 0) ≡ b → AllHowTold n r Claim (if b then [] else record { waiter = w.waiter; how = Ambiguous } ∷ [])
    by true e = All-nil (HowTold n r Claim)
    by false e = All-cons (HowTold n r Claim) (record { waiter = w.waiter; how = Ambiguous }) [] (told (eqb-false w.waiter 0 e)) (All-nil (HowTold n r Claim))
