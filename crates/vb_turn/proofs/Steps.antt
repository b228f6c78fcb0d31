-- From what the steps tell to what a call promises.
use Rattle.std.proofs.Common.{◌≡◌, ℕ, ◌≤◌, false, List, [], ◌∷◌, ◌++◌, Some, Result, Ok, Err, refl, sym, ap, ◌∙◌, subst, arith}
use Rattle.std.specs.Prelude.{max, IfOk}
use mathlib.Core.Option.{none, some, some-injective}
use mathlib.Core.List.{IsPrefix}
use lib.ListN.{get_elem?}
use Rattle.atomic_table.specs.Table.{Me, rest, step, Final, Seen}
use Rattle.vb_turn.specs.declared.view.View.{View}
use Rattle.vb_turn.specs.History.{after, top, Sound, Ends}
use Rattle.vb_turn.specs.Turning.{Placed, Apart, Whole, Orderly, Took, loaded, holding, added, without_turn, knowing, both, all_parts, Turning}
use Rattle.vb_turn.specs.Seats.{Holds, MadeAt, Stepped, Joined, Finished, Called, Published, Gathered, ClosesWith}
use Rattle.vb_turn.proofs.Keeps.{closes}
use Rattle.vb_turn.proofs.Owning.{seen_whole}
use Rattle.vb_turn.proofs.Histories.{after_snoc, legal_snoc, top_snoc, top_prefix, sound_grows}

pub if_ok : {T E : Type 0} (P Q : T → Type 0) (r : Result T E) → ((x : T) → P x → Q x) → IfOk r P → IfOk r Q
if_ok P Q (Ok x) f p = f x p
if_ok P Q (Err e) f p = tt

abbrev object_of : {M : Type 0} → M → List (ℕ × M) → M
object_of d [] = d
object_of d (x ∷ xs) = x.1

module _ {M P C R : Type 0} (stands : M → P → Type 0) (next : P → C → P × R) (number : P → ℕ) where
  abbrev W : Type 0
  W = View M (C × R)

  abbrev Sat : Type 0
  Sat = Me M W

  pub held_by : (m m' : Sat) → Took (Sound stands next number) (Ends stands next) m m' → m.1 ≡ [] → Holds stands next m'
  held_by m m' (log, n, y, now, front, known, (o, is, good, ends)) empty = subst (Holds stands next) (sym now) (o, y, (λ i. (0, y) ∷ empty i), refl, is, ends)

  pub stepped_by : (m : Sat) (object new : M) (call : C) (reply : R) (k : ℕ) → Holds stands next m → m.1 ≡ (0, object) ∷ rest m.1
      → ((s : P) → stands object s → stands new (next s call).0 × (reply ≡ (next s call).1)) → ((s : P) → stands new s → k ≡ number s)
      → Stepped stands next number m call (reply, k) (m.0, (0, new) ∷ rest m.1)
  stepped_by m object new call reply k (o, y, has, turn, is, ends) at made high =
      let same : y ≡ object = ap (object_of y) (sym has ∙ at) in
      let one : (o' : M) → m.0.opening ≡ Some o' → o ≡ o' = λ o' is'. cc (is, is') in
      let old : (o' : M) → m.0.opening ≡ Some o' → (s : P) → stands o' s → stands object (after next s m.0.base) = λ o' is' s st.
      subst (λ (z : M). stands z (after next s m.0.base)) same (ends s (subst (λ (z : M). stands z s) (sym (one o' is')) st)) in (
        refl,
        (
          new,
          (λ i. (0, new) ∷ ap rest has i),
          λ o' is' s st. subst (stands new) (sym (after_snoc next s m.0.base (call, reply))) (made (after next s m.0.base) (old o' is' s st)).0,
        ),
        λ o' is' s st. let d = made (after next s m.0.base) (old o' is' s st) in (d.1, high (next (after next s m.0.base) call).0 d.0),
      )

  -- the published number is that of the history with the call
  pub grows_by : (m m' : Sat) (call noted : C) (reply : R) (k : ℕ) → Holds stands next m → noted ≡ call → Stepped stands next number m call (reply, k) m'
      → (o : M) × (m'.0.opening ≡ Some o) × ((n : ℕ) → Sound stands next number o m'.0.base n → Sound stands next number o (m'.0.base ++ (noted, reply) ∷ []) (max n k))
  grows_by m m' call noted reply k (o, y, has, turn, is, ends) say (same, object, made) =
      let made' = subst (λ (z : W × C). MadeAt stands next number z.0 (z.1, reply) k) (λ i. (sym same i, sym say i)) made in
      let is' : m'.0.opening ≡ Some o = ap (λ v. v.opening) same ∙ is in
      (o, is', λ n. sound_grows stands next number o m'.0.base (noted, reply) k n (made' o is'))

  pub held_after : (m m' m'' : Sat) (call noted : C) (reply : R) (k : ℕ) → Holds stands next m → noted ≡ call → Stepped stands next number m call (reply, k) m'
      → m'' ≡ (added m'.0 (noted, reply), m'.1) → Holds stands next m''
  held_after m m' m'' call noted reply k (o, y, has, turn, is, ends) say (same, (new, at, stands'), made) now =
      subst (Holds stands next) (sym now) (
        o,
        new,
        at,
        ap (λ v. v.turn) same ∙ turn,
        ap (λ v. v.opening) same ∙ is,
        subst (λ (z : W × C). Ends stands next o (z.0.base ++ (z.1, reply) ∷ []) new) (λ i. (sym same i, sym say i)) (stands' o is),
      )

  pub joined_by : (m m' m'' : Sat) (call noted : C) (reply : R) (k : ℕ) → noted ≡ call → Stepped stands next number m call (reply, k) m'
      → m'' ≡ (added m'.0 (noted, reply), m'.1) → Orderly m''.0 m''.0.seen → Joined stands next number m.0 (call, reply) m''.0
  joined_by m m' m'' call noted reply k say (same, object, made) now orderly =
      (ap (λ z. z.0) now ∙ (λ i. added (same i) (say i, reply)), orderly, (k, made))

  pub finished_by : (m m' m'' : Sat) (e : C × R) → Joined stands next number m.0 e m'.0 → m'' ≡ (without_turn m'.0, []) → Finished stands next number m.0 e m''
  finished_by m m' m'' e (adds, orderly, made) given =
      (given ∙ (λ i. (without_turn (adds i), [])), subst (λ (z : W). Orderly z z.seen) adds orderly, made)

  pub called_by : (m m' last : Sat) (e : C × R) → Took (Sound stands next number) (Ends stands next) m m' → Finished stands next number m'.0 e last → Called stands next number m.0 e last.0
  called_by m m' last e (log, n, y, now, front, known, (o, is, good, ends)) (given, orderly, (k, made)) =
      let gone : last.0 ≡ without_turn (added m'.0 e) = ap (λ z. z.0) given in
      let view : m'.0 ≡ holding m.0 log = ap (λ z. z.0) now in
      let made' = subst (λ (z : W). MadeAt stands next number z e k) view made in record {
        base = log;
        front = front;
        new = gone ∙ ap (λ (z : W). without_turn (added z e)) view;
        legal = λ o' is' s st. let one : o ≡ o' = cc (is, is') in let st' = subst (λ (z : M). stands z s) (sym one) st in let g = good s st' in let d = made' o is s st' in
            let t = top_snoc next number s log e in let a : ℕ = top next number s log in let b : ℕ = number (next (after next s log) e.0).0 in let c : ℕ = top next number s (log ++ e ∷ []) in
            let t' : c ≡ max a b = t in let g' : a ≡ n = g.1 in let goal : m.0.known ≤ c = omega arith in
            (legal_snoc next s log e g.0 (sym d.0), goal);
        orderly = subst (λ (z : W). Orderly z z.seen) (sym gone) orderly;
      }

  pub told_by : (m m' : Sat) (r : ℕ) → loaded (Sound stands next number) (Ends stands next) (step 0 0 0 0 none) m r m' → Published stands next number m.0 r m'.0
  told_by m m' r (now, known, met, some_parts, (log, front, orderly, good)) = (
    ap (λ z. z.0) now,
    known,
    λ o is s stood. let g = good o is s stood in let t = top_prefix next number s m.0.seen log front in
        let a : ℕ = top next number s m.0.seen in let b : ℕ = top next number s log in let t' : a ≤ b = t in let g' : b ≡ r = g.1 in let goal : a ≤ r = omega arith in goal,
    (log, front, orderly, good),
  )

  pub gathered_by : (v u : W) (m m' : Sat) (cs : List (ℕ × M)) (r : ℕ) → m ≡ (both v u, cs) → loaded (Sound stands next number) (Ends stands next) (step 0 0 0 0 none) m r m' → Gathered v u m'.0
  gathered_by v u m m' cs r now (told, known, met, some_parts, (log, front, orderly, good)) =
      let view : m.0 ≡ both v u = ap (λ z. z.0) now in let new : m'.0 ≡ knowing m.0 r = ap (λ z. z.0) told in let most : m.0.known ≡ max v.known u.known = ap (λ (x : W). x.known) view in (
        subst (λ (x : W). IsPrefix x.met x.seen) view met,
        (r, omega arith, omega arith, new ∙ ap (λ (x : W). knowing x r) view),
        subst (λ (x : W). Placed x.seen x.mine) (sym new) orderly.0,
        subst (λ (x : W). Apart x.mine) (sym new) orderly.1,
        subst (λ (x : W). x.parts ≡ all_parts → Whole x.mine x.seen) (sym new)
            (λ all. subst (λ (l : List (C × R)). Whole m.0.mine l) (sym (seen_whole m.0.seen log m.0.mine front orderly.0 (orderly.2 all))) (orderly.2 all)),
      )

  pub closed_by : (key : M) (id : ℕ) (v : W) (ws : List ℕ) (xs : List M) (object : M) → all_parts ≤ v.parts → v.turn ≡ false
      → Final (Seen (Turning (Sound stands next number) (Ends stands next) key) id v) ws xs → get_elem? xs 0 ≡ some object → ClosesWith stands next v object
  closed_by key id v ws xs object all free final at =
      let (exact, (log, y, there, front, placed, counts, is, good, ends)) = closes (Sound stands next number) (Ends stands next) key id v ws xs all free final in
      let same : y ≡ object = some-injective y object (sym there ∙ at) in (
        exact,
        (
          log,
          front,
          placed,
          counts,
          λ o is' s st. let one : key ≡ o = cc (is, is') in let st' = subst (λ (z : M). stands z s) (sym one) st in
              ((good s st').0, subst (λ (z : M). stands z (after next s log)) same (ends s st')),
        ),
      )
