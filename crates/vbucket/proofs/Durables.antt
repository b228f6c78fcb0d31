-- when a durable write is refused, and what one that is made comes to
use Rattle.std.proofs.Common.{◌≡◌, ◌≢◌, ◌⊎◌, inl, inr, ⊎_elim, ℕ, ◌+◌, ◌^◌, ◌<◌, Bool, true, false, List, length, refl, sym, ap, subst, ◌∙◌, arith}
use Rattle.std.specs.Prelude.{◌↔◌, Option, Some, None, not, if◌then◌else◌, nat_le, unwrap_or}
use Rattle.std.specs.Str.{bytes_eq}
use Rattle.std.proofs.lemmas.Bool.Decides.{nat_tests}
use Rattle.std.proofs.lemmas.Slice.Eq.{bytes_eq-Decides}
use Rattle.durability.specs.declared.waiting.Waiting.{Waiting}
use Rattle.durability.specs.Chains.{Members, chain_length, is_possible, majority, named}
use Rattle.durability.specs.Laws.{Waits}
use Rattle.durability.specs.Outstanding.{placed}
use Rattle.vb_types.specs.declared.change.Change.{Change}
use Rattle.vb_types.specs.declared.change.Pend.{Pend}
use Rattle.vb_types.specs.declared.doc.Doc.{Doc}
use Rattle.vb_types.specs.declared.role.Role.{Role}
use Rattle.vb_types.specs.declared.role.Role.TheVariants as role
use Rattle.vb_types.specs.declared.status.Status.{Status}
use Rattle.vb_types.specs.declared.status.Status.TheVariants as status
use Rattle.vb_types.specs.declared.write.Op.{Op}
use Rattle.vb_types.specs.declared.write.Op.TheVariants as op
use Rattle.vb_types.specs.declared.write.Write.{Write}
use Rattle.vb_types.proofs.Laws.{get-insert_same}
use Rattle.vb_calls.specs.declared.calls.VbAnswer.TheVariants as answer
use Rattle.vb_calls.specs.declared.calls.VbReply.{VbReply}
use Rattle.vb_calls.specs.State.{Plain, doc_at, get_reply, image_in, is_active, is_left, newest_branch, pending_of, refusal_reply}
use Rattle.vb_calls.specs.Durable.{Wish, durable_outcome, durable_refusal, is_delete, outstanding, prepare_change, prepared_reply, prepared_vb}
use Rattle.vb_calls.specs.Writes.{doc_refusal, key_refusal, lacks_seqnos, new_cas, new_rev, written_doc}
use Rattle.vbucket.specs.Committing.{Commits}
use Rattle.vbucket.specs.DurableLaws.{DurableMade, DurableRefused, IsPrepared, IsShort, TakesDurable, Unprepared}
use Rattle.vbucket.specs.Laws.{Sound}
use Rattle.vbucket.proofs.Committing.{commits}
use Rattle.vbucket.proofs.Prepares.{IsPut, pend_stays, put}
use Rattle.vbucket.proofs.Preparing.{durable_free, prepared_sound}
use Rattle.vbucket.proofs.ReadBack.{cas_above, docs_pushed, follows, pends_pushed}
use Rattle.vbucket.proofs.Reasons.{above, absent_key, again_key, is_above, is_below, left_of, not_foreign, not_full, not_impossible, or_by_left, pending_key, present_key}
use Rattle.vbucket.proofs.Storing.{nothing_waits, seqs_at}

-- the order of the reasons

abbrev first : Role → Bool → Bool → Option Status → Option Status
first r p full said = if not (is_active r) then Some status.NotMyVbucket else if not p then Some status.DurabilityImpossible else if full then Some status.Etmpfail else said

foreign_of : (r : Role) (p full : Bool) (said : Option Status) → (said ≡ Some status.NotMyVbucket → ⊥) → first r p full said ≡ Some status.NotMyVbucket → r ≢ role.Active
foreign_of role.Active true true said n e = cc
foreign_of role.Active true false said n e = λ k. n e
foreign_of role.Active false full said n e = cc
foreign_of role.Replica p full said n e = λ k. cc
foreign_of role.Pending p full said n e = λ k. cc
foreign_of role.Dead p full said n e = λ k. cc

is_foreign : (r : Role) (p full : Bool) (said : Option Status) → r ≢ role.Active → first r p full said ≡ Some status.NotMyVbucket
is_foreign role.Active p full said n = absurd (n refl)
is_foreign role.Replica p full said n = refl
is_foreign role.Pending p full said n = refl
is_foreign role.Dead p full said n = refl

short_of : (r : Role) (p full : Bool) (said : Option Status) → (said ≡ Some status.DurabilityImpossible → ⊥) → first r p full said ≡ Some status.DurabilityImpossible → (r ≡ role.Active) × (p ≡ false)
short_of role.Active true true said n e = cc
short_of role.Active true false said n e = absurd (n e)
short_of role.Active false full said n e = (refl, refl)
short_of role.Replica p full said n e = cc
short_of role.Pending p full said n e = cc
short_of role.Dead p full said n e = cc

full_of : (r : Role) (p full : Bool) (said : Option Status) → (said ≡ Some status.Etmpfail → ⊥) → first r p full said ≡ Some status.Etmpfail → (r ≡ role.Active) × (p ≡ true) × (full ≡ true)
full_of role.Active true true said n e = (refl, refl, refl)
full_of role.Active true false said n e = absurd (n e)
full_of role.Active false full said n e = cc
full_of role.Replica p full said n e = cc
full_of role.Pending p full said n e = cc
full_of role.Dead p full said n e = cc

by_parts : (r : Role) (p full a b : Bool) (said : Option Status) → r ≡ role.Active → p ≡ a → full ≡ b → first r p full said ≡ first role.Active a b said
by_parts r p full a b said e f g = ap (λ q. first q p full said) e ∙ ap (λ q. first role.Active q full said) f ∙ ap (λ q. first role.Active a q said) g

short_of_others : (others : Members) → is_possible others ≡ false → IsShort others
short_of_others others e = less (majority (chain_length others)) (1 + length (named others)) e
  where
    less : (a b : ℕ) → nat_le a b ≡ false → b < a
    less a b e = grind (arith, nat_tests)

is_short : (others : Members) → IsShort others → is_possible others ≡ false
is_short others l = lacks (majority (chain_length others)) (1 + length (named others)) l
  where
    lacks : (a b : ℕ) → b < a → nat_le a b ≡ false
    lacks a b l = grind (arith, nat_tests)

enough : (others : Members) → (IsShort others → ⊥) → is_possible others ≡ true
enough others n = by (is_possible others) refl
  where
    by : (b : Bool) → is_possible others ≡ b → b ≡ true
    by true e = refl
    by false e = absurd (n (short_of_others others e))

not_short : (others : Members) → is_possible others ≡ true → IsShort others → ⊥
not_short others e l = let z : true ≡ false = sym e ∙ is_short others l in cc

told_of : (why : Option Status) (vb : Plain) (write : Write) (wish : Wish) (cas : ℕ) (st : Status) → (durable_outcome why vb write wish cas).1.answer ≡ answer.Status st → why ≡ Some st
told_of (Some s) vb write wish cas st e = cc
told_of None vb write wish cas st e = cc

told_tested : (why : Option Status) (vb : Plain) (write : Write) (wish : Wish) (cas : ℕ) (st : Status) → why ≡ Some st → (durable_outcome why vb write wish cas).1.answer ≡ answer.Status st
told_tested (Some s) vb write wish cas st e = cc
told_tested None vb write wish cas st e = cc

module _ (vb : Plain) (write : Write) (clock : ℕ) (wish : Wish) where
  said_by : (st : Status) → Unprepared vb write clock wish st → durable_refusal vb write ≡ Some st
  said_by st e = told_of (durable_refusal vb write) vb write wish (new_cas clock vb.last_cas) st e

  says : (st : Status) → durable_refusal vb write ≡ Some st → Unprepared vb write clock wish st
  says st e = told_tested (durable_refusal vb write) vb write wish (new_cas clock vb.last_cas) st e

  decided : TakesDurable vb → durable_refusal vb write ≡ key_refusal vb write
  decided t = by_parts vb.role (is_possible vb.others) (lacks_seqnos vb 2) true false (key_refusal vb write) t.0 (enough vb.others t.1) (is_below (vb.position.at + length vb.waiting + 2) t.2)

  by_key : {A : Type 0} (st : Status) → (key_refusal vb write ≡ Some st) ↔ A → TakesDurable vb → Unprepared vb write clock wish st ↔ A
  by_key st k t = (λ e. k.0 (sym (decided t) ∙ said_by st e), λ a. says st (decided t ∙ k.1 a))

pub refused : DurableRefused
refused vb write clock wish =
    let p = is_possible vb.others in
    let f = lacks_seqnos vb 2 in
    let k = key_refusal vb write in
    record {
      foreign = (λ e. foreign_of vb.role p f k (not_foreign vb write) (said_by vb write clock wish status.NotMyVbucket e), λ n. says vb write clock wish status.NotMyVbucket (is_foreign vb.role p f k n));
      short = (
        λ e. let s = short_of vb.role p f k (not_impossible vb write) (said_by vb write clock wish status.DurabilityImpossible e) in (s.0, short_of_others vb.others s.1),
        λ s. says vb write clock wish status.DurabilityImpossible (by_parts vb.role p f false f k s.0 (is_short vb.others s.1) refl),
      );
      full = (
        λ e. let s = full_of vb.role p f k (not_full vb write) (said_by vb write clock wish status.Etmpfail e) in (s.0, not_short vb.others s.1, above (vb.position.at + length vb.waiting + 2) s.2),
        λ s. says vb write clock wish status.Etmpfail (by_parts vb.role p f true true k s.0 (enough vb.others s.1) (is_above (vb.position.at + length vb.waiting + 2) s.2)),
      );
      again = by_key vb write clock wish status.SyncWriteReCommitInProgress (again_key vb write);
      pending = by_key vb write clock wish status.SyncWriteInProgress (pending_key vb write);
      present = by_key vb write clock wish status.KeyEexists (present_key vb write);
      absent = by_key vb write clock wish status.KeyEnoent (absent_key vb write);
    }

-- a write that is prepared

deletes : (o : Op) → (is_delete o ≡ true) ↔ (o ≡ op.Delete)
deletes op.Set = (λ e. cc, λ e. cc)
deletes op.Add = (λ e. cc, λ e. cc)
deletes op.Replace = (λ e. cc, λ e. cc)
deletes op.Delete = (λ e. refl, λ e. refl)

alike : (a b : Bool) → (a ≡ true → b ≡ true) → (b ≡ true → a ≡ true) → a ≡ b
alike true b f g = sym (f refl)
alike false true f g = g refl
alike false false f g = refl

is_none : (a : Bool) → (a ≡ true → ⊥) → a ≡ false
is_none true f = absurd (f refl)
is_none false f = refl

neither : (b : Bool) (o : Option Doc) → unwrap_or (if b then None else None) o ≡ o
neither true o = refl
neither false o = refl

module _ (vb : Plain) (write : Write) (wish : Wish) (cas : ℕ) where
  abbrev new : Waiting
  new = outstanding write wish (vb.position.at + 1)

  abbrev change : Change
  change = prepare_change vb write wish.level cas

  abbrev doc : Doc
  doc = written_doc write cas (new_rev (doc_at vb write.key))

  abbrev pend : Pend
  pend = record { seq = vb.position.at + 1; level = wish.level; doc = doc; deleted = is_delete write.op }

  abbrev made : Plain × VbReply
  made = (prepared_vb vb write wish cas, prepared_reply (newest_branch vb.log) change cas)

  low : Sound vb → (v : Waiting) → Waits v vb.waiting → v.seq ≢ vb.position.at + 1
  low s v i e = let k = s.waits.backed v i in let m = seqs_at vb s v.key k.0 k.1 in let n = k.2 in omega arith

  placed_one : Sound vb → IsPut new vb.waiting (placed new vb.waiting)
  placed_one s = put new vb.waiting s.waits.ascend (low s)

  is_pend : pending_of made.0 write.key ≡ Some pend
  is_pend = pends_pushed vb change write.key ∙ get-insert_same (image_in vb).pending write.key pend

  doc_stays : (key : List ℕ) → doc_at made.0 key ≡ doc_at vb key
  doc_stays key = docs_pushed vb change key ∙ neither (bytes_eq write.key key) (doc_at vb key)

  -- the new prepare has a deadline
  timed : {A : Type 0} (v : Waiting) → v ≡ new → v.deadline ≡ None → A
  timed v e n = let z : None ≡ Some wish.deadline = sym n ∙ ap (λ (x : Waiting). x.deadline) e in cc

  left_some : Sound vb → (p : Pend) → is_left (placed new vb.waiting) (Some p) ≡ is_left vb.waiting (Some p)
  left_some s p = alike (is_left (placed new vb.waiting) (Some p)) (is_left vb.waiting (Some p))
      (λ e. let k = left_of (placed new vb.waiting) p e in ⊎_elim (λ x. timed k.0 x k.3) (λ j. or_by_left vb.waiting p k.0 j k.2 k.3) ((placed_one s).was k.0 k.1))
      (λ e. let k = left_of vb.waiting p e in or_by_left (placed new vb.waiting) p k.0 ((placed_one s).stays k.0 k.1) k.2 k.3)

  left_same : Sound vb → (o : Option Pend) → is_left (placed new vb.waiting) o ≡ is_left vb.waiting o
  left_same s None = refl
  left_same s (Some p) = left_some s p

  left_new : Sound vb → is_left (placed new vb.waiting) (Some pend) ≡ false
  left_new s = is_none (is_left (placed new vb.waiting) (Some pend))
      (λ e. let k = left_of (placed new vb.waiting) pend e in ⊎_elim (λ x. timed k.0 x k.3) (λ j. low s k.0 j k.2) ((placed_one s).was k.0 k.1))

  left_stays : Sound vb → pending_of vb write.key ≡ None → (key : List ℕ) → is_left made.0.waiting (pending_of made.0 key) ≡ is_left vb.waiting (pending_of vb key)
  left_stays s n key = by (bytes_eq write.key key) refl
    where
      by : (b : Bool) → bytes_eq write.key key ≡ b → is_left made.0.waiting (pending_of made.0 key) ≡ is_left vb.waiting (pending_of vb key)
      by true e =
          let same = (bytes_eq-Decides write.key key).0 e in
          subst (λ k. is_left made.0.waiting (pending_of made.0 k) ≡ is_left vb.waiting (pending_of vb k)) same
          (ap (is_left made.0.waiting) is_pend ∙ left_new s ∙ sym (ap (is_left vb.waiting) n))
      by false e =
          let other : write.key ≢ key = λ k. let z = (bytes_eq-Decides write.key key).1 k in cc in
          ap (is_left made.0.waiting) (pends_pushed vb change key ∙ pend_stays (image_in vb) (vb.position.at + 1) write.key change.act key other) ∙ left_same s (pending_of vb key)

  prepared : (clock : ℕ) → Sound vb → durable_refusal vb write ≡ None → cas ≡ new_cas clock vb.last_cas → (vb.last_cas + 1 < 2 ^ 64 → vb.last_cas < cas) → IsPrepared vb write clock wish made (vb.position.at + 1) cas
  prepared clock s e t more =
      let f = durable_free vb.role (is_possible vb.others) (lacks_seqnos vb 2) (key_refusal vb write) e in
      let none = (nothing_waits vb.waiting (pending_of vb write.key) (doc_refusal write.op write.cas (doc_at vb write.key)) f.3).0 in
      let g = placed_one s in
      record {
        seqno = refl;
        timed = t;
        rises = more;
        answer = refl;
        one = (change, doc, is_delete write.op, refl, refl, refl, refl, record { value = refl; flags = refl; expiry = refl; datatype = refl; cas = refl; rev = follows vb write.key f.0 }, deletes write.op, is_pend);
        waits = λ w. (λ i. ⊎_elim (λ x. inr x) (λ j. inl j) (g.was w i), λ o. ⊎_elim (λ j. g.stays w j) (λ x. subst (λ y. Waits y (placed new vb.waiting)) (sym x) g.there) o);
        told = (refl, refl, refl);
        grows = refl;
        position = refl;
        counted = refl;
        stays = refl;
        unseen = λ key. ap (λ (x : Bool × Option Doc). if is_active vb.role then get_reply x.0 x.1 else refusal_reply status.NotMyVbucket) (λ i. (left_stays s none key i, doc_stays key i));
      }

made_by : (why : Option Status) (vb : Plain) (write : Write) (clock : ℕ) (wish : Wish) (kept seq cas : ℕ) → Sound vb → clock < 2 ^ 64 → durable_refusal vb write ≡ why → kept ≡ new_cas clock vb.last_cas → (vb.last_cas + 1 < 2 ^ 64 → vb.last_cas < kept)
    → Sound (prepared_vb vb write wish kept) ⊎ (why ≢ None) → (durable_outcome why vb write wish kept).1.answer ≡ answer.Prepared seq cas
    → (before : Plain × VbReply) × IsPrepared vb write clock wish before seq cas × Commits before (durable_outcome why vb write wish kept)
made_by (Some st) vb write clock wish kept seq cas s t e k more sound a = cc
made_by None vb write clock wish kept seq cas s t e k more sound a =
    let n : vb.position.at + 1 ≡ seq = cc in
    let m : kept ≡ cas = cc in (
      made vb write wish kept,
      subst (λ x. IsPrepared vb write clock wish (made vb write wish kept) x cas) n (subst (λ x. IsPrepared vb write clock wish (made vb write wish kept) (vb.position.at + 1) x) m (prepared vb write wish kept clock s e k more)),
      commits (made vb write wish kept) (⊎_elim (λ x. x) (λ x. absurd (x refl)) sound),
    )

sound_or : (why : Option Status) (vb : Plain) (write : Write) (clock : ℕ) (wish : Wish) → durable_refusal vb write ≡ why → Sound vb → clock < 2 ^ 64 → Sound (prepared_vb vb write wish (new_cas clock vb.last_cas)) ⊎ (why ≢ None)
sound_or (Some st) vb write clock wish e s t = inr (λ k. cc)
sound_or None vb write clock wish e s t = inl (prepared_sound vb write clock wish e s t)

pub durably_made : DurableMade
durably_made vb write clock wish seq cas s t a =
    made_by (durable_refusal vb write) vb write clock wish (new_cas clock vb.last_cas) seq cas s t refl refl (cas_above clock vb.last_cas) (sound_or (durable_refusal vb write) vb write clock wish refl s t) a
