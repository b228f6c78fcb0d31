-- the cursors of streams are taken away, but for that of one
use Rattle.std.proofs.Common.{◌≡◌, ◌≢◌, ℕ, zero, suc, ◌<◌, ◌≤◌, Bool, true, false, cond, List, [], ◌∷◌, length, get_or, drop, refl, ap, sym, subst, ◌∙◌, arith}
use Rattle.std.specs.Prelude.{◌==◌, not, if◌then◌else◌, Option, Some, None}
use Rattle.std.specs.FinMap as finite
use Rattle.std.specs.List.{filter}
use Rattle.std.specs.Cmp.{nat_cmp_total}
use Rattle.std.specs.Ordering.{nat_cmp}
use Rattle.std.proofs.lemmas.Bool.Decides.{nat_tests}
use Rattle.vb_types.specs.declared.role.Role.{Role}
use Rattle.vb_types.specs.declared.role.Role.TheVariants as role
use Rattle.vb_calls.specs.declared.stream.Stream.{Stream}
use Rattle.vb_calls.specs.declared.calls.VbAnswer.TheVariants.{Done}
use Rattle.vb_calls.specs.Roles.{ending_reply, in_role_with, stream_ids, yielded}
use Rattle.vb_calls.specs.State.{Plain}
use Rattle.vb_calls.specs.Streams.{stream_at, without_stream}
use Rattle.cursor_set.specs.Cursors.{Places, place_of}
use Rattle.ckpt_list.specs.Lists.{Ckpts}
use Rattle.vbucket.specs.Kept.{SameChanges}
use Rattle.vbucket.specs.Promoting.{unfed, zero_at}
use Rattle.vbucket.specs.Steady.{cursor_of, stream_place, AreApart, CursorsAreStreams}
use Rattle.vbucket.specs.Laws.{AreFed, MayFeed}
use Rattle.vbucket.specs.Turning.{only_stream, turned_idle, turned_to}
use Rattle.vbucket.proofs.Feeding.{differ, fed_remove, flip, named, never, tie, tied, untied}

-- one number among streams

same : (a b : ℕ) → (a == b) ≡ true → a ≡ b
same a b e = grind (arith, nat_tests)

other : (a b : ℕ) → (a == b) ≡ false → a ≢ b
other a b e k = grind (arith, nat_tests)

apart : (a b : ℕ) → a ≢ b → (a == b) ≡ false
apart a b n = grind (arith, nat_tests)

none_only : (id : ℕ) (streams : List Stream) → stream_at id streams ≡ None → only_stream id streams ≡ []
none_only id [] e = refl
none_only id (x ∷ xs) e = let k = differ x.id id (stream_at id xs) None x e in ap (λ b. cond b (x ∷ only_stream id xs) (only_stream id xs)) k.0 ∙ none_only id xs k.1

-- the number of an open stream is that of no other
pub only_one : (id : ℕ) (streams : List Stream) (s : Stream) → AreApart streams → stream_at id streams ≡ Some s → only_stream id streams ≡ s ∷ []
only_one id [] s a e = cc
only_one id (x ∷ xs) s a e = by (x.id == id) refl e (only_one id xs s a.2)
  where
    by : (b : Bool) → (x.id == id) ≡ b → cond b (Some x) (stream_at id xs) ≡ Some s → (stream_at id xs ≡ Some s → only_stream id xs ≡ s ∷ []) → cond b (x ∷ only_stream id xs) (only_stream id xs) ≡ s ∷ []
    by true f e ih = let k : x ≡ s = cc in λ i. k i ∷ none_only id xs (subst (λ n. stream_at n xs ≡ None) (same x.id id f) a.1) i
    by false f e ih = ih e

pub only_few : (id : ℕ) (streams : List Stream) → AreApart streams → length (only_stream id streams) ≤ 1
only_few id [] a = omega arith
only_few id (x ∷ xs) a = by (x.id == id) refl (only_few id xs a.2)
  where
    by : (b : Bool) → (x.id == id) ≡ b → length (only_stream id xs) ≤ 1 → length (cond b (x ∷ only_stream id xs) (only_stream id xs)) ≤ 1
    by true f ih = let n : length (only_stream id xs) ≡ 0 = ap (λ ss. length ss) (none_only id xs (subst (λ n. stream_at n xs ≡ None) (same x.id id f) a.1)) in omega arith
    by false f ih = ih

-- no stream has the number 0
pub only_zero : (streams : List Stream) → AreApart streams → only_stream 0 streams ≡ []
only_zero [] a = refl
only_zero (x ∷ xs) a = ap (λ b. cond b (x ∷ only_stream 0 xs) (only_stream 0 xs)) (apart x.id 0 a.0) ∙ only_zero xs a.2

pub without_zero : (streams : List Stream) → AreApart streams → without_stream 0 streams ≡ streams
without_zero [] a = refl
without_zero (x ∷ xs) a = ap (λ b. cond (not b) (x ∷ without_stream 0 xs) (without_stream 0 xs)) (apart x.id 0 a.0) ∙ ap (λ ss. x ∷ ss) (without_zero xs a.2)

apart_only : (id : ℕ) (streams : List Stream) → AreApart streams → AreApart (only_stream id streams)
apart_only id [] a = tt
apart_only id (x ∷ xs) a = by (x.id == id) refl (apart_only id xs a.2)
  where
    by : (b : Bool) → (x.id == id) ≡ b → AreApart (only_stream id xs) → AreApart (cond b (x ∷ only_stream id xs) (only_stream id xs))
    by true f ih = subst (λ ss. AreApart (x ∷ ss)) (sym (none_only id xs (subst (λ n. stream_at n xs ≡ None) (same x.id id f) a.1))) (a.0, refl, tt)
    by false f ih = ih

-- and who has a number among them
pub only_at : (id q : ℕ) (streams : List Stream) → stream_at q (only_stream id streams) ≡ (if q == id then stream_at q streams else None)
only_at id q [] = never (q == id)
only_at id q (x ∷ xs) = pull (x.id == id) ∙ by (x.id == id) (x.id == q) (q == id) refl refl refl (only_at id q xs)
  where
    pull : (a : Bool) → stream_at q (cond a (x ∷ only_stream id xs) (only_stream id xs)) ≡ cond a (cond (x.id == q) (Some x) (stream_at q (only_stream id xs))) (stream_at q (only_stream id xs))
    pull true = refl
    pull false = refl

    by : (a b c : Bool) → (x.id == id) ≡ a → (x.id == q) ≡ b → (q == id) ≡ c → stream_at q (only_stream id xs) ≡ (if c then stream_at q xs else None)
        → cond a (cond b (Some x) (stream_at q (only_stream id xs))) (stream_at q (only_stream id xs)) ≡ (if c then cond b (Some x) (stream_at q xs) else None)
    by true true true e f g ih = refl
    by true true false e f g ih = tied x.id id q e f g
    by true false c e f g ih = ih
    by false true true e f g ih = untied x.id id q e f g
    by false true false e f g ih = ih
    by false false c e f g ih = ih

-- in a role other than dead no stream is kept, and in that one at most one
few_only : (r : Role) (kept : ℕ) (streams : List Stream) → AreApart streams → (kept ≢ 0 → r ≡ role.Dead) → MayFeed r (only_stream kept streams)
few_only r kept streams a dead = by (kept == 0) refl
  where
    idle : (x : Role) → MayFeed x []
    idle role.Active = tt
    idle role.Replica = refl
    idle role.Pending = refl
    idle role.Dead = omega arith

    by : (b : Bool) → (kept == 0) ≡ b → MayFeed r (only_stream kept streams)
    by true e = subst (λ ss. MayFeed r ss) (sym (ap (λ n. only_stream n streams) (same kept 0 e) ∙ only_zero streams a)) (idle r)
    by false e = subst (λ x. MayFeed x (only_stream kept streams)) (sym (dead (other kept 0 e))) (only_few kept streams a)

pub feeds_only : (r new : Role) (floor kept : ℕ) (streams : List Stream) → AreApart streams → (kept ≢ 0 → new ≡ role.Dead) → AreFed r floor streams → AreFed new floor (only_stream kept streams)
feeds_only r new floor kept streams a dead are = record { few = few_only new kept streams a dead; cursors = λ q t is. by q t (q == kept) (sym (only_at kept q streams) ∙ is) }
  where
    by : (q : ℕ) (t : Stream) (b : Bool) → (if b then stream_at q streams else None) ≡ Some t → t.cursor ≡ true → floor ≤ t.place
    by q t true at has = are.cursors q t at has
    by q t false at has = cc

-- the numbers of all streams but one
pub ids_without : (id : ℕ) (streams : List Stream) → filter (λ n. not (n == id)) (stream_ids streams) ≡ stream_ids (without_stream id streams)
ids_without id [] = refl
ids_without id (x ∷ xs) = by (x.id == id) (ids_without id xs)
  where
    by : (b : Bool) → filter (λ n. not (n == id)) (stream_ids xs) ≡ stream_ids (without_stream id xs)
        → cond (not b) (x.id ∷ filter (λ n. not (n == id)) (stream_ids xs)) (filter (λ n. not (n == id)) (stream_ids xs)) ≡ stream_ids (cond (not b) (x ∷ without_stream id xs) (without_stream id xs))
    by true e = e
    by false e = ap (λ ns. x.id ∷ ns) e

-- so a vBucket that takes another role ends all of its streams, or keeps an open one
pub turned_none : (vb : Plain) (new : Role) → AreApart vb.streams → turned_to vb new 0 ≡ turned_idle vb new
turned_none vb new a = λ i. (in_role_with vb new (only_zero vb.streams a i), record (ending_reply vb Done) { ended = stream_ids (without_zero vb.streams a i) })

pub turned_one : (vb : Plain) (kept : ℕ) (s : Stream) → AreApart vb.streams → stream_at kept vb.streams ≡ Some s → turned_to vb role.Dead kept ≡ yielded (Some s) vb
turned_one vb kept s a e =
    (λ i. (in_role_with vb role.Dead (only_one kept vb.streams s a e i), record (ending_reply vb Done) { ended = stream_ids (without_stream kept vb.streams) }))
    ∙ ap (λ n. (in_role_with vb role.Dead (s ∷ []), record (ending_reply vb Done) { ended = stream_ids (without_stream n vb.streams) })) (sym (named kept vb.streams s e))

-- cursors that are dropped one by one, but for that of a number: of another stream that is not among the rest the cursor is gone, and the cursor of that number stands where it stood
abbrev pub AreGone : Places → ℕ → Places → List Stream → Type 0
AreGone first kept places rest = ((id : ℕ) → id ≢ kept → stream_at id rest ≡ None → stream_place places id ≡ None) × (stream_place places kept ≡ stream_place first kept)

pub first_gone : (places : Places) (streams : List Stream) (kept : ℕ) → CursorsAreStreams places streams → AreGone places kept places streams
first_gone places streams kept are = (λ id ne none. sym (are.cursors id) ∙ ap cursor_of none, refl)

-- a stream that comes next is dropped, or is the one that stays
pub gone_next : (first : Places) (kept : ℕ) (places : Places) (streams : List Stream) (i : ℕ) (d s : Stream) → i < length streams → get_or streams i d ≡ s → s.id ≢ kept → AreGone first kept places (drop i streams) → AreGone first kept (finite.remove places s.id) (drop (suc i) streams)
gone_next first kept places [] i d s l is ne are = absurd (omega arith)
gone_next first kept places (x ∷ xs) zero d s l is ne are = (
  λ q nq none. fed_remove places s.id q ∙ by q (q == s.id) refl nq none,
  fed_remove places s.id kept ∙ ap (λ b. if b then None else stream_place places kept) (apart kept s.id (λ e. ne (sym e))) ∙ are.1,
)
  where
    by : (q : ℕ) (c : Bool) → (q == s.id) ≡ c → q ≢ kept → stream_at q xs ≡ None → (if c then None else stream_place places q) ≡ None
    by q true e nq none = refl
    by q false e nq none = are.0 q nq (ap (λ b. cond b (Some x) (stream_at q xs)) (ap (λ (y : Stream). y.id == q) is ∙ flip s.id q ∙ e) ∙ none)
gone_next first kept places (x ∷ xs) (suc i) d s l is ne are = gone_next first kept places xs i d s (omega arith) is ne are

pub gone_past : (first : Places) (kept : ℕ) (places : Places) (streams : List Stream) (i : ℕ) (d s : Stream) → i < length streams → get_or streams i d ≡ s → s.id ≡ kept → AreGone first kept places (drop i streams) → AreGone first kept places (drop (suc i) streams)
gone_past first kept places [] i d s l is at are = absurd (omega arith)
gone_past first kept places (x ∷ xs) zero d s l is at are = (λ q nq none. are.0 q nq (ap (λ b. cond b (Some x) (stream_at q xs)) (apart x.id q (λ e. nq (sym e ∙ ap (λ (y : Stream). y.id) is ∙ at))) ∙ none), are.1)
gone_past first kept places (x ∷ xs) (suc i) d s l is at are = gone_past first kept places xs i d s (omega arith) is at are

pub gone_last : (first : Places) (streams : List Stream) (kept : ℕ) (places : Places) → CursorsAreStreams first streams → AreGone first kept places [] → CursorsAreStreams places (only_stream kept streams)
gone_last first streams kept places were gone = record {
  cursors = λ q. ap cursor_of (only_at kept q streams) ∙ by q (q == kept) refl;
  apart = apart_only kept streams were.apart;
}
  where
    by : (q : ℕ) (c : Bool) → (q == kept) ≡ c → cursor_of (if c then stream_at q streams else None) ≡ stream_place places q
    by q true e = let k = same q kept e in were.cursors q ∙ ap (stream_place first) k ∙ sym (ap (stream_place places) k ∙ gone.1)
    by q false e = sym (gone.0 q (other q kept e) refl)

-- where no stream is left, the cursor 0 is alone
pub is_unfed : (l m : Ckpts) → SameChanges l m → CursorsAreStreams m.places [] → m ≡ unfed l
is_unfed l m e are = e.rest ∙ ap (λ (p : Places). record l { places = p }) (finite.same_map nat_cmp_total finite.nat_cmp-IsAntisymmetric m.places (zero_at (place_of l.places 0)) at)
  where
    found : (o : Option ℕ) (q : ℕ) → place_of (zero_at o) q ≡ (if q == 0 then o else None)
    found None q = finite.get-empty nat_cmp q ∙ never (q == 0)
    found (Some n) q = finite.get-insert nat_cmp_total finite.empty 0 n q ∙ (λ i. cond (tie q 0 i) (Some n) (finite.get-empty nat_cmp q i)) ∙ by (q == 0)
      where
        by : (c : Bool) → cond c (Some n) None ≡ (if c then Some n else None)
        by true = refl
        by false = refl

    at : (q : ℕ) → place_of m.places q ≡ place_of (zero_at (place_of l.places 0)) q
    at q = by (q == 0) refl (are.cursors q) ∙ sym (found (place_of l.places 0) q)
      where
        by : (c : Bool) → (q == 0) ≡ c → None ≡ (if c then None else place_of m.places q) → place_of m.places q ≡ (if c then place_of l.places 0 else None)
        by true f g = ap (place_of m.places) (same q 0 f) ∙ e.zero
        by false f g = sym g

-- and what was said of it holds where it is alone
pub unfed_same : (l : Ckpts) → SameChanges l (unfed l)
unfed_same l = record { rest = refl; zero = by (place_of l.places 0) }
  where
    by : (o : Option ℕ) → place_of (zero_at o) 0 ≡ o
    by None = finite.get-empty nat_cmp 0
    by (Some n) = finite.get-insert nat_cmp_total finite.empty 0 n 0
