-- what a request for a stream is told
use Rattle.std.proofs.Common.{◌≡◌, ◌≢◌, ℕ, ◌≤◌, Bool, true, false, cond, List, [], ◌∷◌, ◌++◌, refl, sym, ap, subst, ◌∙◌, inl, inr, ⊎_elim, arith}
use Rattle.std.specs.Prelude.{◌⊎◌, Option, Some, None, if◌then◌else◌, nat_le, ◌&&◌, ◌==◌}
use Rattle.std.proofs.lemmas.Bool.Decides.{nat_tests}
use Rattle.vb_types.specs.declared.stream.AskAnswer.TheVariants as ask_answer
use Rattle.vb_types.specs.declared.status.Status.{Status}
use Rattle.vb_types.specs.declared.status.Status.TheVariants as status
use Rattle.vb_types.specs.declared.stream.Place.TheVariants.{Memory}
use Rattle.vb_types.specs.declared.stream.StreamAsk.{StreamAsk}
use Rattle.vb_types.specs.declared.stream.Verdict.{Verdict}
use Rattle.vb_types.specs.declared.stream.Verdict.TheVariants.{Continue, Roll}
use Rattle.vb_types.specs.Statuses.{status_code}
use Rattle.branch_model.specs.Requests.{rule}
use Rattle.vb_calls.specs.declared.calls.VbAnswer.TheVariants as answer
use Rattle.vb_calls.specs.declared.calls.VbCall.TheVariants as call
use Rattle.vb_calls.specs.declared.stream.Stream.{Stream}
use Rattle.vb_types.specs.declared.role.Role.{Role}
use Rattle.vb_types.specs.declared.role.Role.TheVariants as role
use Rattle.vb_calls.specs.State.{Plain, is_active, quiet_reply}
use Rattle.vb_calls.specs.Plain.{plain_step}
use Rattle.vb_calls.specs.Streams.{asked_stream, first_reason, id_refusal, is_in_memory, is_ranged, judged_open, new_stream, open_outcome, open_refusal, place_from, place_reply, placed_by, source_by, source_of, stream_at}
use Rattle.vbucket.specs.Asks.{AnswersHaveLog, HasLog, IsOpen, IsTaken, IsRanged, IsHeard, OpensAs, OpensExactly, with_asked}
use Rattle.vbucket.proofs.Feeding.{at_pushed, cursored, last_changed, own}

zero : (id : ℕ) → id ≡ 0 → (id == 0) ≡ true
zero id e = grind (arith, nat_tests)

-- no stream is opened under 0
no_id : (id : ℕ) (o : Option Stream) → id ≡ 0 → id_refusal id o ≡ Some status.KeyEexists
no_id id None e = ap (λ b. if b then Some status.KeyEexists else None) (zero id e)
no_id id (Some s) e = refl

refused : (a : Bool) (o rest : Option Status) → o ≡ Some status.KeyEexists → (if a then first_reason o rest else Some status.NotMyVbucket) ≡ None → ⊥
refused true o rest e n = let k : Some status.KeyEexists ≡ None = sym (ap (λ x. first_reason x rest) e) ∙ n in cc
refused false o rest e n = cc

pub asks_told : AnswersHaveLog
asks_told vb id ask sync = by (open_refusal vb id ask) refl
  where
    judged : (v : Verdict) → open_refusal vb id ask ≡ None → HasLog vb id (judged_open v vb id ask sync)
    judged Continue e = inl (
      source_of vb (asked_stream id ask sync),
      refl,
      λ z. refused (is_active vb.role) (id_refusal id (stream_at id vb.streams)) (if is_ranged ask then None else Some status.Erange) (no_id id (stream_at id vb.streams) z) e,
    )
    judged (Roll to) e = inr (ask_answer.Roll to, refl, λ q. cc)

    by : (why : Option Status) → open_refusal vb id ask ≡ why → HasLog vb id (open_outcome why vb id ask sync)
    by (Some st) e = inr (ask_answer.Refuse (status_code st), refl, λ q. cc)
    by None e = judged (rule vb.log vb.position.at ask) e

-- the reasons, in order

pub is_open : (id : ℕ) (ss : List Stream) (s : Stream) → stream_at id ss ≡ Some s → IsOpen id ss
is_open id [] s e = cc
is_open id (x ∷ xs) s e = by (x.id == id) refl e (is_open id xs s)
  where
    by : (b : Bool) → (x.id == id) ≡ b → cond b (Some x) (stream_at id xs) ≡ Some s → (stream_at id xs ≡ Some s → IsOpen id xs) → IsOpen id (x ∷ xs)
    by true q k ih = inl (grind (arith, nat_tests))
    by false q k ih = inr (ih k)

pub not_open : (id : ℕ) (ss : List Stream) → stream_at id ss ≡ None → IsOpen id ss → ⊥
not_open id [] e o = o
not_open id (x ∷ xs) e o = by (x.id == id) refl e (not_open id xs)
  where
    by : (b : Bool) → (x.id == id) ≡ b → cond b (Some x) (stream_at id xs) ≡ None → (stream_at id xs ≡ None → IsOpen id xs → ⊥) → ⊥
    by true q k ih = cc
    by false q k ih = ⊎_elim (λ (same : x.id ≡ id). let t : (x.id == id) ≡ true = grind (arith, nat_tests) in let z : true ≡ false = sym t ∙ q in cc) (λ more. ih k more) o

-- what refuses, in this order, or nothing
abbrev Stands : Plain → ℕ → StreamAsk → Option Status → Type 0
Stands vb id ask why =
    ((why ≡ Some status.NotMyVbucket) × (vb.role ≢ role.Active))
    ⊎ (((why ≡ Some status.KeyEexists) × ((vb.role ≡ role.Active) × IsTaken vb id))
    ⊎ (((why ≡ Some status.Erange) × ((vb.role ≡ role.Active) × (IsTaken vb id → ⊥) × (IsRanged ask → ⊥)))
    ⊎ ((why ≡ None) × IsHeard vb id ask)))

pub zero_of : (id : ℕ) → (id == 0) ≡ true → id ≡ 0
zero_of id e = grind (arith, nat_tests)

pub not_zero : (id : ℕ) → (id == 0) ≡ false → id ≡ 0 → ⊥
not_zero id e z = grind (arith, nat_tests)

ranged_of : (start end ss se : ℕ) → (nat_le start end && nat_le ss start && nat_le start se) ≡ true → (ss ≤ start) × (start ≤ se) × (start ≤ end)
ranged_of start end ss se e = (grind (arith, nat_tests), grind (arith, nat_tests), grind (arith, nat_tests))

not_ranged : (start end ss se : ℕ) → (nat_le start end && nat_le ss start && nat_le start se) ≡ false → (ss ≤ start) × (start ≤ se) × (start ≤ end) → ⊥
not_ranged start end ss se e r = let a = r.0 in let b = r.1 in let c = r.2 in grind (arith, nat_tests)

pub role_of : (r : Role) → is_active r ≡ true → r ≡ role.Active
role_of role.Active e = refl
role_of role.Replica e = cc
role_of role.Pending e = cc
role_of role.Dead e = cc

pub not_role : (r : Role) → is_active r ≡ false → r ≢ role.Active
not_role role.Active e q = cc
not_role role.Replica e q = cc
not_role role.Pending e q = cc
not_role role.Dead e q = cc

module _ (vb : Plain) (id : ℕ) (ask : StreamAsk) where
  by_range : (b : Bool) → is_ranged ask ≡ b → vb.role ≡ role.Active → (IsTaken vb id → ⊥) → Stands vb id ask (if b then None else Some status.Erange)
  by_range true e a f = inr (inr (inr (refl, (a, f, ranged_of ask.start ask.end ask.ss ask.se e))))
  by_range false e a f = inr (inr (inl (refl, (a, f, λ r. not_ranged ask.start ask.end ask.ss ask.se e r))))

  by_id : (o : Option Stream) → stream_at id vb.streams ≡ o → vb.role ≡ role.Active → Stands vb id ask (first_reason (id_refusal id o) (if is_ranged ask then None else Some status.Erange))
  by_id (Some s) e a = inr (inl (refl, (a, inr (is_open id vb.streams s e))))
  by_id None e a = by (id == 0) refl
    where
      by : (b : Bool) → (id == 0) ≡ b → Stands vb id ask (first_reason (if b then Some status.KeyEexists else None) (if is_ranged ask then None else Some status.Erange))
      by true q = inr (inl (refl, (a, inl (zero_of id q))))
      by false q = by_range (is_ranged ask) refl a (λ t. ⊎_elim (λ z. not_zero id q z) (λ o. not_open id vb.streams e o) t)

  stands : Stands vb id ask (open_refusal vb id ask)
  stands = by (is_active vb.role) refl
    where
      by : (b : Bool) → is_active vb.role ≡ b → Stands vb id ask (if b then first_reason (id_refusal id (stream_at id vb.streams)) (if is_ranged ask then None else Some status.Erange) else Some status.NotMyVbucket)
      by true e = by_id (stream_at id vb.streams) refl (role_of vb.role e)
      by false e = inl (refl, not_role vb.role e)

  module _ (sync : Bool) where
    is_free : (o : Option Stream) → stream_at id vb.streams ≡ o → (IsTaken vb id → ⊥) → stream_at id vb.streams ≡ None
    is_free None e free = e
    is_free (Some s) e free = absurd (free (inr (is_open id vb.streams s e)))

    -- a stream that is opened is where it would be placed from the start of its request
    opens_as_placed : stream_at id vb.streams ≡ None → plain_step (with_asked vb id ask sync) (call.Place id) ≡ (record vb { streams = vb.streams ++ new_stream vb id ask sync ∷ [] }, place_reply (source_of vb (asked_stream id ask sync)))
    opens_as_placed free =
        ap (λ o. place_from o (with_asked vb id ask sync)) (at_pushed id (asked_stream id ask sync) vb.streams free ∙ ap (λ b. if b then Some (asked_stream id ask sync) else stream_at id vb.streams) (own id))
        ∙ by (is_in_memory vb ask.start)
      where
        by : (b : Bool) → placed_by false b (asked_stream id ask sync) (with_asked vb id ask sync)
            ≡ (record vb { streams = vb.streams ++ record { id = id; ask = ask; sync = sync; place = ask.start; cursor = b; taken = false } ∷ [] }, place_reply (source_by b))
        by true = ap (λ ss. (record vb { streams = ss }, place_reply Memory)) (last_changed id cursored (λ x. refl) (asked_stream id ask sync) vb.streams refl free)
        by false = refl

    heard : (v : Verdict) → rule vb.log vb.position.at ask ≡ v → IsHeard vb id ask → OpensAs vb id ask sync (judged_open v vb id ask sync)
    heard Continue e h = record {
      foreign = (λ q. cc, λ n. absurd (n h.0));
      taken = (λ q. cc, λ t. absurd (h.1 t.1));
      outside = (λ q. cc, λ t. absurd (t.2 h.2));
      back = λ to. (λ q. cc, λ t. let z : Continue ≡ Roll to = sym e ∙ t.1 in cc);
      go = (λ q. (h, e), λ t. (source_of vb (asked_stream id ask sync), refl));
      opens = λ from q.
          let k : source_of vb (asked_stream id ask sync) ≡ from = cc in
          subst (λ place. plain_step (with_asked vb id ask sync) (call.Place id) ≡ (record vb { streams = vb.streams ++ new_stream vb id ask sync ∷ [] }, quiet_reply (answer.Placed place))) k (opens_as_placed (is_free (stream_at id vb.streams) refl h.1));
    }
    heard (Roll n) e h = record {
      foreign = (λ q. cc, λ n. absurd (n h.0));
      taken = (λ q. cc, λ t. absurd (h.1 t.1));
      outside = (λ q. cc, λ t. absurd (t.2 h.2));
      back = λ to. (λ q. (h, (let k : n ≡ to = cc in e ∙ ap Roll k)), λ t. let z : Roll n ≡ Roll to = sym e ∙ t.1 in let k : n ≡ to = cc in ap (λ m. answer.Asked (ask_answer.Roll m) vb.log vb.position.at) k);
      go = (λ q. let z = q.1 in cc, λ t. let z : Roll n ≡ Continue = sym e ∙ t.1 in cc);
      opens = λ from q. cc;
    }

    abbrev Answers : Option Status → Type 0
    Answers why = OpensAs vb id ask sync (open_outcome why vb id ask sync)

    foreign : vb.role ≢ role.Active → Answers (Some status.NotMyVbucket)
    foreign n = record {
      foreign = (λ q. n, λ q. refl);
      taken = (λ q. cc, λ t. absurd (n t.0));
      outside = (λ q. cc, λ t. absurd (n t.0));
      back = λ to. (λ q. cc, λ t. absurd (n t.0.0));
      go = (λ q. let z = q.1 in cc, λ t. absurd (n t.0.0));
      opens = λ from q. cc;
    }

    taken : (vb.role ≡ role.Active) × IsTaken vb id → Answers (Some status.KeyEexists)
    taken k = record {
      foreign = (λ q. cc, λ n. absurd (n k.0));
      taken = (λ q. k, λ t. refl);
      outside = (λ q. cc, λ t. absurd (t.1 k.1));
      back = λ to. (λ q. cc, λ t. absurd (t.0.1 k.1));
      go = (λ q. let z = q.1 in cc, λ t. absurd (t.0.1 k.1));
      opens = λ from q. cc;
    }

    outside : (vb.role ≡ role.Active) × (IsTaken vb id → ⊥) × (IsRanged ask → ⊥) → Answers (Some status.Erange)
    outside k = record {
      foreign = (λ q. cc, λ n. absurd (n k.0));
      taken = (λ q. cc, λ t. absurd (k.1 t.1));
      outside = (λ q. k, λ t. refl);
      back = λ to. (λ q. cc, λ t. absurd (k.2 t.0.2));
      go = (λ q. let z = q.1 in cc, λ t. absurd (k.2 t.0.2));
      opens = λ from q. cc;
    }

    opens : (why : Option Status) → Stands vb id ask why → Answers why
    opens why s = ⊎_elim (λ k. subst Answers (sym k.0) (foreign k.1))
        (λ s. ⊎_elim (λ k. subst Answers (sym k.0) (taken k.1))
        (λ s. ⊎_elim (λ k. subst Answers (sym k.0) (outside k.1)) (λ k. subst Answers (sym k.0) (heard (rule vb.log vb.position.at ask) refl k.1)) s) s) s

pub opens_exactly : OpensExactly
opens_exactly vb id ask sync = opens vb id ask sync (open_refusal vb id ask) (stands vb id ask)
