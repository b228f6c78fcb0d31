-- the cursors are those of the streams
use Rattle.std.proofs.Common.{◌≡◌, ℕ, zero, suc, ◌≢◌, ◌<◌, Bool, true, false, cond, List, [], ◌∷◌, ◌++◌, map, length, get_or, refl, ap, sym, subst, ◌∙◌, arith}
use Rattle.std.specs.Prelude.{◌==◌, not, if◌then◌else◌, Option, Some, None}
use Rattle.std.specs.Option.{option_map}
use Rattle.std.specs.FinMap as finite
use Rattle.std.specs.Ordering.{nat_cmp, eq_by_cmp}
use Rattle.std.specs.Cmp.{nat_cmp_total, unsigned_tied}
use Rattle.std.proofs.lemmas.Bool.Decides.{nat_tests}
use Rattle.vb_calls.specs.declared.stream.Stream.{Stream}
use Rattle.vb_calls.specs.Streams.{given_cursor, moved_on, stream_at, without_cursor, without_stream}
use Rattle.cursor_set.specs.Cursors.{Places, place_of}
use Rattle.ckpt_list.specs.Lists.{Ckpts, moved_cursor}
use Rattle.vbucket.specs.Kept.{SameChanges}
use Rattle.vbucket.specs.Steady.{cursor_of, stream_place, with_cursor, AreApart, CursorsAreStreams}

pub flip : (x y : ℕ) → (x == y) ≡ (y == x)
flip x y = by (x == y) (y == x) refl refl
  where
    by : (a b : Bool) → (x == y) ≡ a → (y == x) ≡ b → a ≡ b
    by true true e f = refl
    by true false e f = grind (arith, nat_tests, e, f)
    by false true e f = grind (arith, nat_tests, e, f)
    by false false e f = refl

-- three numbers that are tested for equality
pub tied : {A : Type 0} (x y z : ℕ) → (x == y) ≡ true → (x == z) ≡ true → (z == y) ≡ false → A
tied x y z e f g = absurd (grind (arith, nat_tests, e, f, g))

pub untied : {A : Type 0} (x y z : ℕ) → (x == y) ≡ false → (x == z) ≡ true → (z == y) ≡ true → A
untied x y z e f g = absurd (grind (arith, nat_tests, e, f, g))

pub never : {A : Type 0} (c : Bool) → ◌≡◌ {A = Option A} None (if c then None else None)
never true = refl
never false = refl

-- which stream has a number, with a stream more, one less, and one that is changed

pub at_pushed : (q : ℕ) (s : Stream) (streams : List Stream) → stream_at s.id streams ≡ None → stream_at q (streams ++ s ∷ []) ≡ (if q == s.id then Some s else stream_at q streams)
at_pushed q s [] none = ap (λ b. cond b (Some s) None) (flip s.id q)
at_pushed q s (x ∷ xs) none = by (x.id == s.id) (x.id == q) (q == s.id) refl refl refl none (at_pushed q s xs)
  where
    by : (a b c : Bool) → (x.id == s.id) ≡ a → (x.id == q) ≡ b → (q == s.id) ≡ c → cond a (Some x) (stream_at s.id xs) ≡ None
        → (stream_at s.id xs ≡ None → stream_at q (xs ++ s ∷ []) ≡ (if c then Some s else stream_at q xs))
        → cond b (Some x) (stream_at q (xs ++ s ∷ [])) ≡ (if c then Some s else cond b (Some x) (stream_at q xs))
    by true b c e f g none ih = cc
    by false true true e f g none ih = untied x.id s.id q e f g
    by false true false e f g none ih = refl
    by false false true e f g none ih = ih none
    by false false false e f g none ih = ih none

pub at_closed : (id q : ℕ) (streams : List Stream) → stream_at q (without_stream id streams) ≡ (if q == id then None else stream_at q streams)
at_closed id q [] = never (q == id)
at_closed id q (x ∷ xs) = pull (x.id == id) ∙ by (x.id == id) (x.id == q) (q == id) refl refl refl (at_closed id q xs)
  where
    pull : (a : Bool) → stream_at q (cond (not a) (x ∷ without_stream id xs) (without_stream id xs)) ≡ cond (not a) (cond (x.id == q) (Some x) (stream_at q (without_stream id xs))) (stream_at q (without_stream id xs))
    pull true = refl
    pull false = refl

    by : (a b c : Bool) → (x.id == id) ≡ a → (x.id == q) ≡ b → (q == id) ≡ c → stream_at q (without_stream id xs) ≡ (if c then None else stream_at q xs)
        → cond (not a) (cond b (Some x) (stream_at q (without_stream id xs))) (stream_at q (without_stream id xs)) ≡ (if c then None else cond b (Some x) (stream_at q xs))
    by true true true e f g ih = ih
    by true true false e f g ih = tied x.id id q e f g
    by true false true e f g ih = ih
    by true false false e f g ih = ih
    by false true true e f g ih = untied x.id id q e f g
    by false true false e f g ih = refl
    by false false true e f g ih = ih
    by false false false e f g ih = ih

-- the stream that is found has the number
pub named : (id : ℕ) (streams : List Stream) (s : Stream) → stream_at id streams ≡ Some s → s.id ≡ id
named id [] s e = cc
named id (x ∷ xs) s e = by (x.id == id) refl e (named id xs s)
  where
    by : (b : Bool) → (x.id == id) ≡ b → cond b (Some x) (stream_at id xs) ≡ Some s → (stream_at id xs ≡ Some s → s.id ≡ id) → s.id ≡ id
    by true f e ih = let k : x ≡ s = cc in sym (ap (λ (y : Stream). y.id) k) ∙ grind (arith, nat_tests, f)
    by false f e ih = ih e

pub found_at : (id : ℕ) (streams : List Stream) (s : Stream) → stream_at id streams ≡ Some s → stream_at s.id streams ≡ Some s
found_at id streams s e = ap (λ n. stream_at n streams) (named id streams s e) ∙ e

pub own : (n : ℕ) → (n == n) ≡ true
own n = grind (arith, nat_tests)

-- the stream of a number is changed, but for its number
module _ (id : ℕ) (g : Stream → Stream) (keeps : (s : Stream) → (g s).id ≡ s.id) where
  abbrev pub changed : Stream → Stream
  changed s = if s.id == id then g s else s

  same_id : (s : Stream) → (changed s).id ≡ s.id
  same_id s = by (s.id == id)
    where
      by : (b : Bool) → Stream.id (if b then g s else s) ≡ s.id
      by true = keeps s
      by false = refl

  pub at_changed : (q : ℕ) (streams : List Stream) → stream_at q (map changed streams) ≡ option_map changed (stream_at q streams)
  at_changed q [] = refl
  at_changed q (x ∷ xs) = ap (λ n. cond (n == q) (Some (changed x)) (stream_at q (map changed xs))) (same_id x) ∙ by (x.id == q) (at_changed q xs)
    where
      by : (b : Bool) → stream_at q (map changed xs) ≡ option_map changed (stream_at q xs) → cond b (Some (changed x)) (stream_at q (map changed xs)) ≡ option_map changed (cond b (Some x) (stream_at q xs))
      by true ih = refl
      by false ih = ih

  pub own_changed : (s : Stream) (streams : List Stream) → stream_at id streams ≡ Some s → stream_at id (map changed streams) ≡ Some (g s)
  own_changed s streams is =
      let own : (s.id == id) ≡ true = let e = named id streams s is in grind (arith, nat_tests, e) in
      at_changed id streams ∙ ap (option_map changed) is ∙ ap (λ b. Some (if b then g s else s)) own

  pub other_changed : (q : ℕ) (streams : List Stream) → (q == id) ≡ false → stream_at q (map changed streams) ≡ stream_at q streams
  other_changed q streams ne = at_changed q streams ∙ by (stream_at q streams) refl
    where
      by : (o : Option Stream) → stream_at q streams ≡ o → option_map changed o ≡ o
      by None e = refl
      by (Some s) e =
          let other : (s.id == id) ≡ false = ap (λ n. n == id) (named q streams s e) ∙ ne in
          ap (λ b. Some (if b then g s else s)) other

  pub apart_changed : (streams : List Stream) → AreApart streams → AreApart (map changed streams)
  apart_changed [] a = tt
  apart_changed (x ∷ xs) a = (
    subst (λ n. n ≢ 0) (sym (same_id x)) a.0,
    subst (λ n. stream_at n (map changed xs) ≡ None) (sym (same_id x)) (at_changed x.id xs ∙ ap (option_map changed) a.1),
    apart_changed xs a.2,
  )

-- two different numbers
pub differ : (x q : ℕ) (a b : Option Stream) (s : Stream) → cond (x == q) (Some s) a ≡ None → ((x == q) ≡ false) × (a ≡ None)
differ x q a b s e = by (x == q) e
  where
    by : (t : Bool) → cond t (Some s) a ≡ None → (t ≡ false) × (a ≡ None)
    by true e = cc
    by false e = (refl, e)

-- where the last one alone has the number
pub last_changed : (id : ℕ) (g : Stream → Stream) (keeps : (s : Stream) → (g s).id ≡ s.id) (s : Stream) (streams : List Stream) → s.id ≡ id → stream_at id streams ≡ None → map (changed id g keeps) (streams ++ s ∷ []) ≡ streams ++ g s ∷ []
last_changed id g keeps s [] is none = ap (λ b. (if b then g s else s) ∷ []) (ap (λ n. n == id) is ∙ own id)
last_changed id g keeps s (x ∷ xs) is none =
    let k = differ x.id id (stream_at id xs) None x none in
    (λ i. (if k.0 i then g x else x) ∷ last_changed id g keeps s xs is k.1 i)

-- the numbers of a stream more, and one less

pub apart_found : (id : ℕ) (streams : List Stream) (s : Stream) → AreApart streams → stream_at id streams ≡ Some s → id ≢ 0
apart_found id [] s a e = cc
apart_found id (x ∷ xs) s a e = by (x.id == id) refl e (apart_found id xs s a.2)
  where
    by : (b : Bool) → (x.id == id) ≡ b → cond b (Some x) (stream_at id xs) ≡ Some s → (stream_at id xs ≡ Some s → id ≢ 0) → id ≢ 0
    by true f e ih = let k : x.id ≡ id = grind (arith, nat_tests, f) in subst (λ n. n ≢ 0) k a.0
    by false f e ih = ih e

apart_pushed : (s : Stream) (streams : List Stream) → AreApart streams → s.id ≢ 0 → stream_at s.id streams ≡ None → AreApart (streams ++ s ∷ [])
apart_pushed s [] a n e = (n, refl, tt)
apart_pushed s (x ∷ xs) a n e =
    let k = differ x.id s.id (stream_at s.id xs) None x e in (
      a.0,
      at_pushed x.id s xs k.1 ∙ ap (λ b. if b then Some s else stream_at x.id xs) k.0 ∙ a.1,
      apart_pushed s xs a.2 n k.1,
    )

apart_closed : (id : ℕ) (streams : List Stream) → AreApart streams → AreApart (without_stream id streams)
apart_closed id [] a = tt
apart_closed id (x ∷ xs) a = by (x.id == id) refl (apart_closed id xs a.2)
  where
    by : (b : Bool) → (x.id == id) ≡ b → AreApart (without_stream id xs) → AreApart (cond (not b) (x ∷ without_stream id xs) (without_stream id xs))
    by true f k = k
    by false f k = (a.0, at_closed id x.id xs ∙ ap (λ c. if c then None else stream_at x.id xs) f ∙ a.1, k)

-- the cursors after one more, one less, and one that moved on

pub tie : (q id : ℕ) → eq_by_cmp nat_cmp q id ≡ (q == id)
tie q id = unsigned_tied q id

fed_insert : (places : Places) (id q n : ℕ) → id ≢ 0 → stream_place (finite.insert places id n) q ≡ (if q == id then Some n else stream_place places q)
fed_insert places id q n ne =
    ap (λ o. if q == 0 then None else o) (finite.get-insert nat_cmp_total places id n q ∙ ap (λ b. cond b (Some n) (place_of places q)) (tie q id))
    ∙ by (q == 0) (q == id) refl refl
  where
    by : (a b : Bool) → (q == 0) ≡ a → (q == id) ≡ b → (if a then None else cond b (Some n) (place_of places q)) ≡ (if b then Some n else (if a then None else place_of places q))
    by true true e f = absurd (ne (grind (arith, nat_tests, e, f)))
    by true false e f = refl
    by false true e f = refl
    by false false e f = refl

pub fed_remove : (places : Places) (id q : ℕ) → stream_place (finite.remove places id) q ≡ (if q == id then None else stream_place places q)
fed_remove places id q =
    ap (λ o. if q == 0 then None else o) (finite.get-remove nat_cmp_total places id q ∙ ap (λ b. cond b None (place_of places q)) (tie q id))
    ∙ by (q == 0) (q == id)
  where
    by : (a b : Bool) → (if a then None else cond b None (place_of places q)) ≡ (if b then None else (if a then None else place_of places q))
    by true true = refl
    by true false = refl
    by false true = refl
    by false false = refl

-- what other cursors do leaves the cursor 0
pub zero_inserted : (places : Places) (id n : ℕ) → id ≢ 0 → place_of (finite.insert places id n) 0 ≡ place_of places 0
zero_inserted places id n ne = finite.get-insert nat_cmp_total places id n 0 ∙ ap (λ b. cond b (Some n) (place_of places 0)) (tie 0 id ∙ apart (0 == id) refl)
  where
    apart : (b : Bool) → (0 == id) ≡ b → b ≡ false
    apart true e = absurd (ne (grind (arith, nat_tests, e)))
    apart false e = refl

pub zero_removed : (places : Places) (id : ℕ) → id ≢ 0 → place_of (finite.remove places id) 0 ≡ place_of places 0
zero_removed places id ne = finite.get-remove nat_cmp_total places id 0 ∙ ap (λ b. cond b None (place_of places 0)) (tie 0 id ∙ apart (0 == id) refl)
  where
    apart : (b : Bool) → (0 == id) ≡ b → b ≡ false
    apart true e = absurd (ne (grind (arith, nat_tests, e)))
    apart false e = refl

pub zero_moved : (places : Places) (n : ℕ) → place_of (finite.insert places 0 n) 0 ≡ Some n
zero_moved places n = finite.get-insert nat_cmp_total places 0 n 0 ∙ refl

-- a new stream's
zero_opened : (places : Places) (s : Stream) → s.id ≢ 0 → place_of (with_cursor places s) 0 ≡ place_of places 0
zero_opened places s ne = by s.cursor
  where
    by : (b : Bool) → place_of (if b then finite.insert places s.id s.place else places) 0 ≡ place_of places 0
    by true = zero_inserted places s.id s.place ne
    by false = refl

-- the number 0 is no stream's
pub numbered : (places : Places) (streams : List Stream) (id : ℕ) (s : Stream) → CursorsAreStreams places streams → stream_at id streams ≡ Some s → id ≢ 0
numbered places streams id s are is = apart_found id streams s are.apart is

-- the cursor of a stream that has one stands at its place
pub fed_at : (places : Places) (streams : List Stream) (id : ℕ) (s : Stream) → CursorsAreStreams places streams → stream_at id streams ≡ Some s → s.cursor ≡ true → place_of places id ≡ Some s.place
fed_at places streams id s are is has = by (id == 0) (sym (are.cursors id) ∙ ap cursor_of is ∙ ap (λ b. if b then Some s.place else None) has)
  where
    by : (b : Bool) → (if b then None else place_of places id) ≡ Some s.place → place_of places id ≡ Some s.place
    by true f = cc
    by false f = f

pub fed_opened : (places : Places) (streams : List Stream) (s : Stream) → CursorsAreStreams places streams → s.id ≢ 0 → stream_at s.id streams ≡ None → CursorsAreStreams (with_cursor places s) (streams ++ s ∷ [])
fed_opened places streams s are ne none = record {
  cursors = λ q. ap cursor_of (at_pushed q s streams none) ∙ by q (q == s.id) refl s.cursor refl;
  apart = apart_pushed s streams are.apart ne none;
}
  where
    inserted : (q : ℕ) (b : Bool) → (q == s.id) ≡ b → stream_place (finite.insert places s.id s.place) q ≡ (if b then Some s.place else stream_place places q)
    inserted q b e = fed_insert places s.id q s.place ne ∙ ap (λ c. if c then Some s.place else stream_place places q) e

    by : (q : ℕ) (b : Bool) → (q == s.id) ≡ b → (c : Bool) → s.cursor ≡ c → cursor_of (if b then Some s else stream_at q streams) ≡ stream_place (if c then finite.insert places s.id s.place else places) q
    by q true e true f = ap (λ c. if c then Some s.place else None) f ∙ sym (inserted q true e)
    by q true e false f =
        let k : q ≡ s.id = grind (arith, nat_tests, e) in
        ap (λ c. if c then Some s.place else None) f ∙ sym (ap cursor_of (ap (λ n. stream_at n streams) k ∙ none)) ∙ are.cursors q
    by q false e true f = are.cursors q ∙ sym (inserted q false e)
    by q false e false f = are.cursors q

pub fed_closed : (places : Places) (streams : List Stream) (id : ℕ) → CursorsAreStreams places streams → CursorsAreStreams (finite.remove places id) (without_stream id streams)
fed_closed places streams id are = record {
  cursors = λ q. ap cursor_of (at_closed id q streams) ∙ by q (q == id) ∙ sym (fed_remove places id q);
  apart = apart_closed id streams are.apart;
}
  where
    by : (q : ℕ) (b : Bool) → cursor_of (if b then None else stream_at q streams) ≡ (if b then None else stream_place places q)
    by q true = refl
    by q false = are.cursors q

-- no stream has the number 0
pub fed_same : (places : Places) (streams : List Stream) (id : ℕ) → CursorsAreStreams places streams → id ≡ 0 → CursorsAreStreams places (without_stream id streams)
fed_same places streams id are z = record {
  cursors = λ q. ap cursor_of (at_closed id q streams ∙ ap (λ n. if q == n then None else stream_at q streams) z) ∙ by q (q == 0) refl;
  apart = apart_closed id streams are.apart;
}
  where
    by : (q : ℕ) (c : Bool) → (q == 0) ≡ c → cursor_of (if c then None else stream_at q streams) ≡ stream_place places q
    by q true e = sym (ap (λ b. if b then None else place_of places q) e)
    by q false e = are.cursors q

-- the stream of a number has its cursor somewhere else now
fed_changed : (id n : ℕ) (g : Stream → Stream) (keeps : (s : Stream) → (g s).id ≡ s.id) (places : Places) (streams : List Stream) (s : Stream) → CursorsAreStreams places streams → stream_at id streams ≡ Some s → cursor_of (Some (g s)) ≡ Some n
    → CursorsAreStreams (finite.insert places id n) (map (changed id g keeps) streams)
fed_changed id n g keeps places streams s are is at = record {
  cursors = λ q. by q (q == id) refl ∙ sym (fed_insert places id q n (apart_found id streams s are.apart is));
  apart = apart_changed id g keeps streams are.apart;
}
  where
    by : (q : ℕ) (b : Bool) → (q == id) ≡ b → cursor_of (stream_at q (map (changed id g keeps) streams)) ≡ (if q == id then Some n else stream_place places q)
    by q true e =
        let k : q ≡ id = grind (arith, nat_tests, e) in
        ap cursor_of (ap (λ m. stream_at m (map (changed id g keeps) streams)) k ∙ own_changed id g keeps s streams is) ∙ at ∙ sym (ap (λ b. if b then Some n else stream_place places q) e)
    by q false e = ap cursor_of (other_changed id g keeps q streams e) ∙ are.cursors q ∙ sym (ap (λ b. if b then Some n else stream_place places q) e)

-- a stream further on, its cursor where it has one; and one that has it now
abbrev pub further : ℕ → Stream → Stream
further end s = record { id = s.id; ask = s.ask; sync = s.sync; place = end; cursor = s.cursor; taken = true }

abbrev pub cursored : Stream → Stream
cursored s = record { id = s.id; ask = s.ask; sync = s.sync; place = s.place; cursor = true; taken = s.taken }

pub fed_moved : (places : Places) (streams : List Stream) (id end : ℕ) (s : Stream) → CursorsAreStreams places streams → stream_at id streams ≡ Some s → s.cursor ≡ true → CursorsAreStreams (finite.insert places id end) (map (moved_on id end) streams)
fed_moved places streams id end s are is has = fed_changed id end (further end) (λ x. refl) places streams s are is (ap (λ b. if b then Some end else None) has)

pub fed_given : (places : Places) (streams : List Stream) (id : ℕ) (s : Stream) → CursorsAreStreams places streams → stream_at id streams ≡ Some s → CursorsAreStreams (finite.insert places id s.place) (map (given_cursor id) streams)
fed_given places streams id s are is = fed_changed id s.place cursored (λ x. refl) places streams s are is refl

-- a stream that has no cursor any more
abbrev pub uncursored : Stream → Stream
uncursored s = record { id = s.id; ask = s.ask; sync = s.sync; place = s.place; cursor = false; taken = s.taken }

gone_at : (id q : ℕ) (streams : List Stream) → cursor_of (stream_at q (map (without_cursor id) streams)) ≡ (if q == id then None else cursor_of (stream_at q streams))
gone_at id q streams = by (q == id) refl
  where
    own : (o : Option Stream) → stream_at id streams ≡ o → cursor_of (option_map (changed id uncursored (λ x. refl)) o) ≡ None
    own None e = refl
    own (Some s) e =
        let is : (s.id == id) ≡ true = let k = named id streams s e in grind (arith, nat_tests, k) in
        ap (λ b. cursor_of (Some (if b then uncursored s else s))) is

    by : (b : Bool) → (q == id) ≡ b → cursor_of (stream_at q (map (without_cursor id) streams)) ≡ (if b then None else cursor_of (stream_at q streams))
    by true e =
        let k : q ≡ id = grind (arith, nat_tests, e) in
        ap (λ n. cursor_of (stream_at n (map (without_cursor id) streams))) k ∙ ap cursor_of (at_changed id uncursored (λ x. refl) id streams) ∙ own (stream_at id streams) refl
    by false e = ap cursor_of (other_changed id uncursored (λ x. refl) q streams e)

pub fed_dropped : (places : Places) (streams : List Stream) (id : ℕ) → CursorsAreStreams places streams → CursorsAreStreams (finite.remove places id) (map (without_cursor id) streams)
fed_dropped places streams id are = record {
  cursors = λ q. gone_at id q streams ∙ ap (λ o. if q == id then None else o) (are.cursors q) ∙ sym (fed_remove places id q);
  apart = apart_changed id uncursored (λ x. refl) streams are.apart;
}

-- no stream has the number 0
pub fed_undropped : (places : Places) (streams : List Stream) (id : ℕ) → CursorsAreStreams places streams → id ≡ 0 → CursorsAreStreams places (map (without_cursor id) streams)
fed_undropped places streams id are z = record {
  cursors = λ q. gone_at id q streams ∙ ap (λ o. if q == id then None else o) (are.cursors q) ∙ by q (q == id) refl;
  apart = apart_changed id uncursored (λ x. refl) streams are.apart;
}
  where
    by : (q : ℕ) (b : Bool) → (q == id) ≡ b → (if b then None else stream_place places q) ≡ stream_place places q
    by q true e = sym (ap (λ b. if b then None else place_of places q) (ap (λ n. q == n) (sym z) ∙ e))
    by q false e = refl

pub fed_none : (at : ℕ) → CursorsAreStreams (finite.insert finite.empty 0 at) []
fed_none at = record { cursors = λ q. by q (q == 0) refl; apart = tt }
  where
    by : (q : ℕ) (b : Bool) → (q == 0) ≡ b → None ≡ (if b then None else place_of (finite.insert finite.empty 0 at) q)
    by q true e = refl
    by q false e = sym (finite.get-insert nat_cmp_total finite.empty 0 at q ∙ ap (λ b. cond b (Some at) (place_of finite.empty q)) (tie q 0 ∙ e) ∙ finite.get-empty nat_cmp q)

-- the cursor 0, alone
pub zero_alone : (at : ℕ) → place_of (finite.insert finite.empty 0 at) 0 ≡ Some at
zero_alone at = zero_moved finite.empty at

numbered_among : (streams : List Stream) (i : ℕ) (d s : Stream) → AreApart streams → i < length streams → get_or streams i d ≡ s → s.id ≢ 0
numbered_among [] i d s a l is = absurd (omega arith)
numbered_among (x ∷ xs) zero d s a l is = subst (λ (y : Stream). y.id ≢ 0) is a.0
numbered_among (x ∷ xs) (suc i) d s a l is = numbered_among xs i d s a.2 (omega arith) is

pub numbered_at : (places : Places) (streams : List Stream) (i : ℕ) (d s : Stream) → CursorsAreStreams places streams → i < length streams → get_or streams i d ≡ s → s.id ≢ 0
numbered_at places streams i d s are l is = numbered_among streams i d s are.apart l is

-- the list after these is the same but for cursors

places_alone : (l m : Ckpts) (places : Places) → m ≡ record l { places = places } → m ≡ record l { places = m.places }
places_alone l m places e = e ∙ (λ i. record l { places = sym (ap (λ (x : Ckpts). x.places) e) i })

pub same_more : (a b c : Ckpts) → SameChanges a b → SameChanges b c → SameChanges a c
same_more a b c d e = record { rest = e.rest ∙ ap (λ (x : Ckpts). record x { places = c.places }) d.rest; zero = e.zero ∙ d.zero }

pub dropped_same : (l m : Ckpts) (id : ℕ) → id ≢ 0 → m ≡ record l { places = finite.remove l.places id } → SameChanges l m
dropped_same l m id ne e = record { rest = places_alone l m (finite.remove l.places id) e; zero = ap (λ (x : Ckpts). place_of x.places 0) e ∙ zero_removed l.places id ne }

pub opened_same : (l m : Ckpts) (s : Stream) → s.id ≢ 0 → m ≡ record l { places = with_cursor l.places s } → SameChanges l m
opened_same l m s ne e = record { rest = places_alone l m (with_cursor l.places s) e; zero = ap (λ (x : Ckpts). place_of x.places 0) e ∙ zero_opened l.places s ne }

pub zero_stays : (l m : Ckpts) (id n : ℕ) → id ≢ 0 → m ≡ moved_cursor l id n → place_of m.places 0 ≡ place_of l.places 0
zero_stays l m id n ne e = ap (λ (x : Ckpts). place_of x.places 0) e ∙ zero_inserted l.places id n ne

pub moved_same : (l m : Ckpts) (id n : ℕ) → id ≢ 0 → m ≡ moved_cursor l id n → SameChanges l m
moved_same l m id n ne e = record { rest = places_alone l m (finite.insert l.places id n) e; zero = zero_stays l m id n ne e }
