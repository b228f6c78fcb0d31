-- what a follower takes from its producer
use Rattle.std.proofs.Common.{List, ◌≡◌, ℕ, ◌^◌, ◌<◌, ◌≤◌, Bool, true, false, refl, sym, ap, ◌∙◌, inl, inr, ⊎_elim, arith}
use Rattle.std.specs.Prelude.{◌⊎◌, Option, Some, None, if◌then◌else◌, nat_le, nat_lt, min, max, ◌==◌, ◌&&◌, ◌||◌}
use Rattle.std.proofs.lemmas.Bool.Decides.{nat_tests}
use Rattle.std.proofs.Math.Nat.{max-zero}
use Rattle.vb_types.specs.declared.change.Act.{Act}
use Rattle.vb_types.specs.declared.change.Act.TheVariants as act
use Rattle.vb_types.specs.declared.change.Change.{Change}
use Rattle.vb_types.specs.declared.change.Pend.{Pend}
use Rattle.vb_types.specs.declared.position.Position.{Position}
use Rattle.vb_types.specs.declared.position.TheConstants.{MAX_SEQ}
use Rattle.vb_types.specs.declared.role.LogEntry.{LogEntry}
use Rattle.vb_types.specs.declared.role.Role.{Role}
use Rattle.vb_types.specs.declared.role.Role.TheVariants as role
use Rattle.vb_types.specs.declared.status.Status.TheVariants as status
use Rattle.branch_model.specs.Requests.{request_of}
use Rattle.vb_calls.specs.declared.calls.VbAnswer.TheVariants as answer
use Rattle.vb_calls.specs.State.{Plain, pending_of, quiet_reply, refusal_reply}
use Rattle.vb_calls.specs.Following.{is_follower, is_answerable, marker_fits, marked_vb, is_next, cas_of, completed_act, receive_as}
use Rattle.vbucket.specs.Receiving.{IsFollower, AsksAs, AsksExactly, AdoptsAs, AdoptsExactly, Fits, MarksAs, MarkersExactly, ComesNext, LacksPrepare, IsTakenAs, CountsCas, ReceivesAs, ReceivesExactly}
use Rattle.vbucket.specs.Adopting.{IsAnswerable}
use Rattle.vbucket.proofs.Adopting.{exactly}
use Rattle.vbucket.proofs.Parts.{both, conj, most_of, most_tested}
use Rattle.vbucket.proofs.Soundness.{guarded}

pub follower_of : (r : Role) → is_follower r ≡ true → IsFollower r
follower_of role.Active e = cc
follower_of role.Replica e = inl refl
follower_of role.Pending e = inr refl
follower_of role.Dead e = cc

pub not_follower : (r : Role) → is_follower r ≡ false → IsFollower r → ⊥
not_follower role.Active e f = ⊎_elim (λ k. cc) (λ k. cc) f
not_follower role.Replica e f = cc
not_follower role.Pending e f = cc
not_follower role.Dead e f = ⊎_elim (λ k. cc) (λ k. cc) f

pub never : (b : Bool) → b ≡ false → b ≡ true → ⊥
never true e f = cc
never false e f = cc

-- requests

asks_as : (vb : Plain) (b : Bool) → is_follower vb.role ≡ b → AsksAs vb (vb, if b then quiet_reply (answer.Named (request_of vb.log vb.position)) else refusal_reply status.NotMyVbucket)
asks_as vb true e = record {
  foreign = (λ q. cc, λ n. absurd (n (follower_of vb.role e)));
  asks = λ ask. (λ q. let k : request_of vb.log vb.position ≡ ask = cc in (follower_of vb.role e, sym k), λ k. ap (λ x. answer.Named x) (sym k.1));
  stays = refl;
}
asks_as vb false e = record { foreign = (λ q. not_follower vb.role e, λ n. refl); asks = λ ask. (λ q. cc, λ k. absurd (not_follower vb.role e k.0)); stays = refl }

pub asks : AsksExactly
asks vb = asks_as vb (is_follower vb.role) refl

-- logs

adopts : (vb : Plain) (log : List LogEntry) (b d : Bool) → is_follower vb.role ≡ b → is_answerable log ≡ d
    → AdoptsAs vb log (guarded b d (record vb { log = log; first = true }, quiet_reply answer.Done) vb status.Einval)
adopts vb log true true e f = record {
  foreign = (λ q. cc, λ n. absurd (n (follower_of vb.role e)));
  outside = (λ q. cc, λ k. absurd (k.1 ((exactly log).0 f)));
  taken = (λ q. (follower_of vb.role e, (exactly log).0 f), λ k. refl);
  adopts = λ _ _. refl;
}
adopts vb log true false e f =
    let none : IsAnswerable log → ⊥ = λ k. never (is_answerable log) f ((exactly log).1 k) in
    record {
      foreign = (λ q. cc, λ n. absurd (n (follower_of vb.role e)));
      outside = (λ q. (follower_of vb.role e, none), λ k. refl);
      taken = (λ q. cc, λ k. absurd (none k.1));
      adopts = λ _ k. absurd (none k);
    }
adopts vb log false d e f = record {
  foreign = (λ q. not_follower vb.role e, λ n. refl);
  outside = (λ q. cc, λ k. absurd (not_follower vb.role e k.0));
  taken = (λ q. cc, λ k. absurd (not_follower vb.role e k.0));
  adopts = λ k _. absurd (not_follower vb.role e k);
}

pub logs : AdoptsExactly
logs vb log = adopts vb log (is_follower vb.role) (is_answerable log) refl refl

-- markers

loaded_role_same : (a b : ℕ) → (a == b) ≡ true → a ≡ b
loaded_role_same a b e = grind (arith, nat_tests)

of_same : (a b : ℕ) → a ≡ b → (a == b) ≡ true
of_same a b e = grind (arith, nat_tests)

pub either : (a b : Bool) → (a || b) ≡ true → (a ≡ true) ⊎ (b ≡ true)
either true b e = inl refl
either false b e = inr e

or_by_left : (a b : Bool) → a ≡ true → (a || b) ≡ true
or_by_left true b e = refl
or_by_left false b e = cc

pub of_right : (a b : Bool) → b ≡ true → (a || b) ≡ true
of_right true b e = refl
of_right false b e = e

capped : (end : ℕ) → nat_le end MAX_SEQ ≡ true → end ≤ 2 ^ 48
capped end e = grind (arith, nat_tests)

of_capped : (end : ℕ) → end ≤ 2 ^ 48 → nat_le end MAX_SEQ ≡ true
of_capped end l = grind (arith, nat_tests)

module _ (vb : Plain) (start end : ℕ) where
  fits_of : marker_fits vb.position vb.first start end ≡ true → Fits vb start end
  fits_of e =
      let a = both (nat_le start end && nat_le vb.position.at end && nat_le end MAX_SEQ) (vb.first || vb.position.at == vb.position.se) e in
      let b = both (nat_le start end && nat_le vb.position.at end) (nat_le end MAX_SEQ) a.0 in
      let c = both (nat_le start end) (nat_le vb.position.at end) b.0 in
      record {
        order = most_of start end c.0;
        reach = most_of vb.position.at end c.1;
        cap = capped end b.1;
        turn = ⊎_elim (λ k. inl k) (λ k. inr (loaded_role_same vb.position.at vb.position.se k)) (either vb.first (vb.position.at == vb.position.se) a.1);
      }

  of_fits : Fits vb start end → marker_fits vb.position vb.first start end ≡ true
  of_fits f =
      conj (nat_le start end && nat_le vb.position.at end && nat_le end MAX_SEQ) (vb.first || vb.position.at == vb.position.se)
      (conj (nat_le start end && nat_le vb.position.at end) (nat_le end MAX_SEQ) (conj (nat_le start end) (nat_le vb.position.at end) (most_tested start end f.order) (most_tested vb.position.at end f.reach)) (of_capped end f.cap))
      (⊎_elim (λ k. or_by_left vb.first (vb.position.at == vb.position.se) k) (λ k. of_right vb.first (vb.position.at == vb.position.se) (of_same vb.position.at vb.position.se k)) f.turn)

  marks : (b d : Bool) → is_follower vb.role ≡ b → marker_fits vb.position vb.first start end ≡ d
      → MarksAs vb start end (guarded b d (marked_vb vb start end, quiet_reply (answer.Range (min start vb.position.at) end)) vb status.Erange)
  marks true true e f = record {
    foreign = (λ q. cc, λ n. absurd (n (follower_of vb.role e)));
    outside = (λ q. cc, λ k. absurd (k.1 (fits_of f)));
    taken = λ ss se. (λ q. ((follower_of vb.role e, fits_of f), cc, cc), λ k. let s : ss ≡ min start vb.position.at = k.1 in let t : se ≡ end = k.2 in cc);
    begins = λ _ _. refl;
  }
  marks true false e f = record {
    foreign = (λ q. cc, λ n. absurd (n (follower_of vb.role e)));
    outside = (λ q. (follower_of vb.role e, λ k. never (marker_fits vb.position vb.first start end) f (of_fits k)), λ k. refl);
    taken = λ ss se. (λ q. cc, λ k. absurd (never (marker_fits vb.position vb.first start end) f (of_fits k.0.1)));
    begins = λ _ k. absurd (never (marker_fits vb.position vb.first start end) f (of_fits k));
  }
  marks false d e f = record {
    foreign = (λ q. not_follower vb.role e, λ n. refl);
    outside = (λ q. cc, λ k. absurd (not_follower vb.role e k.0));
    taken = λ ss se. (λ q. cc, λ k. absurd (not_follower vb.role e k.0.0));
    begins = λ k _. absurd (not_follower vb.role e k);
  }

pub markers : MarkersExactly
markers vb start end = marks vb start end (is_follower vb.role) (marker_fits vb.position vb.first start end) refl refl

-- changes

next_of : (p : Position) (seq : ℕ) → is_next p seq ≡ true → (p.at < seq) × (seq ≤ p.se)
next_of p seq e = (grind (arith, nat_tests), grind (arith, nat_tests))

not_next : (at seq se : ℕ) → (nat_lt at seq && nat_le seq se) ≡ false → (at < seq) × (seq ≤ se) → ⊥
not_next at seq se e k = let a = k.0 in let b = k.1 in grind (arith, nat_tests)

taken_of : (o : Option Pend) (a x : Act) → completed_act o a ≡ Some x → IsTakenAs o a x
taken_of o (act.Set doc) x e = cc
taken_of o (act.Remove cas rev) x e = cc
taken_of o (act.Prepare level doc deleted) x e = cc
taken_of None (act.Commit prepared doc deleted) x e = cc
taken_of (Some p) (act.Commit prepared doc deleted) x e = by (p.seq == prepared) refl e
  where
    by : (b : Bool) → (p.seq == prepared) ≡ b → (if b then Some (act.Commit prepared p.doc p.deleted) else None) ≡ Some x → IsTakenAs (Some p) (act.Commit prepared doc deleted) x
    by true q e = (p, refl, loaded_role_same p.seq prepared q, cc)
    by false q e = cc
taken_of o (act.Abort prepared) x e = cc

lacks_of : (o : Option Pend) (a : Act) → completed_act o a ≡ None → LacksPrepare o a
lacks_of o (act.Set doc) e = cc
lacks_of o (act.Remove cas rev) e = cc
lacks_of o (act.Prepare level doc deleted) e = cc
lacks_of None (act.Commit prepared doc deleted) e = λ p q. cc
lacks_of (Some p) (act.Commit prepared doc deleted) e = λ r q s. let k : p ≡ r = cc in by (p.seq == prepared) refl e (ap (λ (x : Pend). x.seq) k ∙ s)
  where
    by : (b : Bool) → (p.seq == prepared) ≡ b → (if b then Some (act.Commit prepared p.doc p.deleted) else None) ≡ None → p.seq ≡ prepared → ⊥
    by true q e s = cc
    by false q e s = never (p.seq == prepared) q (of_same p.seq prepared s)
lacks_of o (act.Abort prepared) e = cc

-- what is taken lacks nothing
not_lacking : (o : Option Pend) (a x : Act) → IsTakenAs o a x → LacksPrepare o a → ⊥
not_lacking o (act.Set doc) x t l = l
not_lacking o (act.Remove cas rev) x t l = l
not_lacking o (act.Prepare level doc deleted) x t l = l
not_lacking o (act.Commit prepared doc deleted) x t l = l t.0 t.1 t.2
not_lacking o (act.Abort prepared) x t l = l

-- the last CAS after an act that is taken
counts_of : (o : Option Pend) (a x : Act) (last : ℕ) → IsTakenAs o a x → CountsCas o a last (max last (cas_of x))
counts_of o (act.Set doc) x last t = ap (λ y. max last (cas_of y)) (sym t)
counts_of o (act.Remove cas rev) x last t = ap (λ y. max last (cas_of y)) (sym t)
counts_of o (act.Prepare level doc deleted) x last t = ap (λ y. max last (cas_of y)) (sym t)
counts_of o (act.Commit prepared doc deleted) x last t = (t.0, t.1, ap (λ y. max last (cas_of y)) (sym t.3))
counts_of o (act.Abort prepared) x last t = ap (λ y. max last (cas_of y)) (sym t) ∙ max-zero last

module _ (vb : Plain) (c : Change) where
  abbrev pend : Option Pend
  pend = pending_of vb c.key

  enters : (o : Option Act) → completed_act pend c.act ≡ o → is_follower vb.role ≡ true → ComesNext vb c → ReceivesAs vb c (receive_as o vb c)
  enters None e f n =
      let l : LacksPrepare pend c.act = lacks_of pend c.act e in
      record {
        foreign = (λ q. cc, λ k. absurd (k (follower_of vb.role f)));
        outside = (λ q. cc, λ k. absurd (k.1 n));
        lacking = (λ q. (follower_of vb.role f, n, l), λ k. refl);
        taken = (λ q. cc, λ k. absurd (k.2 l));
        enters = λ q. cc;
        moves = λ q. cc;
        stays = refl;
        counts = λ q. cc;
      }
  enters (Some a) e f n =
      let t : IsTakenAs pend c.act a = taken_of pend c.act a e in
      record {
        foreign = (λ q. cc, λ k. absurd (k (follower_of vb.role f)));
        outside = (λ q. cc, λ k. absurd (k.1 n));
        lacking = (λ q. cc, λ k. absurd (not_lacking pend c.act a t k.2));
        taken = (λ q. (follower_of vb.role f, n, λ l. not_lacking pend c.act a t l), λ k. refl);
        enters = λ q. (a, t, refl);
        moves = λ q. refl;
        stays = refl;
        counts = λ q. counts_of pend c.act a vb.last_cas t;
      }

  received : (b d : Bool) → is_follower vb.role ≡ b → is_next vb.position c.seq ≡ d → ReceivesAs vb c (guarded b d (receive_as (completed_act pend c.act) vb c) vb status.Erange)
  received true true e f = enters (completed_act pend c.act) refl e (next_of vb.position c.seq f)
  received true false e f =
      let n : ComesNext vb c → ⊥ = not_next vb.position.at c.seq vb.position.se f in
      record {
        foreign = (λ q. cc, λ k. absurd (k (follower_of vb.role e)));
        outside = (λ q. (follower_of vb.role e, n), λ k. refl);
        lacking = (λ q. cc, λ k. absurd (n k.1));
        taken = (λ q. cc, λ k. absurd (n k.1));
        enters = λ q. cc;
        moves = λ q. cc;
        stays = refl;
        counts = λ q. cc;
      }
  received false d e f = record {
    foreign = (λ q. not_follower vb.role e, λ k. refl);
    outside = (λ q. cc, λ k. absurd (not_follower vb.role e k.0));
    lacking = (λ q. cc, λ k. absurd (not_follower vb.role e k.0));
    taken = (λ q. cc, λ k. absurd (not_follower vb.role e k.0));
    enters = λ q. cc;
    moves = λ q. cc;
    stays = refl;
    counts = λ q. cc;
  }

pub receives : ReceivesExactly
receives vb c = received vb c (is_follower vb.role) (is_next vb.position c.seq) refl refl
