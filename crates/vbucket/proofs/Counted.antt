-- how many cursors there are
use Rattle.std.proofs.Common.{◌≡◌, ℕ, ◌≢◌, Bool, true, false, cond, List, [], ◌∷◌, length, refl, ap, sym, ◌∙◌, arith}
use Rattle.std.specs.Prelude.{◌+◌, ◌-◌, ◌==◌, is_some, if◌then◌else◌, Some, None}
use Rattle.std.specs.List.{filter}
use Rattle.std.specs.FinMap as finite
use Rattle.std.specs.Ordering.{nat_cmp}
use Rattle.std.specs.Cmp.{nat_cmp_total}
use Rattle.std.proofs.lemmas.Bool.Decides.{nat_tests}
use Rattle.vb_calls.specs.declared.stream.Stream.{Stream}
use Rattle.vb_calls.specs.Streams.{stream_at}
use Rattle.cursor_set.specs.Cursors.{Places, place_of}
use Rattle.vbucket.specs.Steady.{cursor_of, stream_place, CursorsAreStreams}
use Rattle.std.specs.FinMap.{nat_cmp-IsAntisymmetric, len-empty, len-remove, same_map}
use Rattle.vbucket.proofs.Feeding.{fed_at, fed_remove, flip, tie, zero_removed}

-- without the cursor 0 none is left where no stream has one
no_cursor : (places : Places) → CursorsAreStreams places [] → (q : ℕ) → place_of (finite.remove places 0) q ≡ None
no_cursor places are q = finite.get-remove nat_cmp_total places 0 q ∙ ap (λ b. cond b None (place_of places q)) (tie q 0) ∙ by (q == 0) (are.cursors q)
  where
    by : (b : Bool) → None ≡ (if b then None else place_of places q) → cond b None (place_of places q) ≡ None
    by true e = refl
    by false e = sym e

one_less : (places : Places) (id : ℕ) → is_some (place_of places id) ≡ true → finite.len (finite.remove places id) ≡ finite.len places - 1
one_less places id e = len-remove nat_cmp_total places id ∙ ap (λ b. cond b (finite.len places - 1) (finite.len places)) e

-- there is a cursor
some_count : (places : Places) (id : ℕ) → is_some (place_of places id) ≡ true → finite.len places ≢ 0
some_count places id e z =
    let none : place_of places id ≡ None = ap (λ (m : Places). place_of m id) (finite.empty_of_len places z) ∙ finite.get-empty nat_cmp id in
    let bad : true ≡ false = sym e ∙ ap is_some none in cc

alone_count : (places : Places) → CursorsAreStreams places [] → is_some (place_of places 0) ≡ true → finite.len places ≡ 1
alone_count places are there =
    let none : finite.remove places 0 ≡ finite.empty = same_map nat_cmp_total nat_cmp-IsAntisymmetric (finite.remove places 0) finite.empty (λ q. no_cursor places are q ∙ sym (finite.get-empty nat_cmp q)) in
    let gone : finite.len (finite.remove places 0) ≡ 0 = ap finite.len none ∙ len-empty nat_cmp ℕ in
    let less : finite.len (finite.remove places 0) ≡ finite.len places - 1 = one_less places 0 there in
    let some : finite.len places ≢ 0 = some_count places 0 there in
    grind (arith, gone, less, some)

-- of the streams behind the first one: its number is none of theirs
behind : (s : Stream) (ss : List Stream) (q : ℕ) (b : Bool) → (q == s.id) ≡ b → stream_at s.id ss ≡ None → stream_at q (s ∷ ss) ≡ (if b then Some s else stream_at q ss)
behind s ss q b e none = ap (λ c. cond c (Some s) (stream_at q ss)) (flip s.id q ∙ e)

absent : (s : Stream) (ss : List Stream) (q : ℕ) → (q == s.id) ≡ true → stream_at s.id ss ≡ None → stream_at q ss ≡ None
absent s ss q e none = let k : q ≡ s.id = grind (arith, nat_tests, e) in ap (λ n. stream_at n ss) k ∙ none

-- the cursors without that of the first stream
first_gone : (places : Places) (s : Stream) (ss : List Stream) → CursorsAreStreams places (s ∷ ss) → CursorsAreStreams (finite.remove places s.id) ss
first_gone places s ss are = record { cursors = λ q. by q (q == s.id) refl ∙ sym (fed_remove places s.id q); apart = are.apart.2 }
  where
    by : (q : ℕ) (b : Bool) → (q == s.id) ≡ b → cursor_of (stream_at q ss) ≡ (if q == s.id then None else stream_place places q)
    by q true e = ap cursor_of (absent s ss q e are.apart.1) ∙ sym (ap (λ b. if b then None else stream_place places q) e)
    by q false e = sym (ap cursor_of (behind s ss q false e are.apart.1)) ∙ are.cursors q ∙ sym (ap (λ b. if b then None else stream_place places q) e)

-- where the first stream has no cursor
first_none : (places : Places) (s : Stream) (ss : List Stream) → CursorsAreStreams places (s ∷ ss) → s.cursor ≡ false → CursorsAreStreams places ss
first_none places s ss are has = record { cursors = λ q. by q (q == s.id) refl; apart = are.apart.2 }
  where
    by : (q : ℕ) (b : Bool) → (q == s.id) ≡ b → cursor_of (stream_at q ss) ≡ stream_place places q
    by q true e = ap cursor_of (absent s ss q e are.apart.1) ∙ sym (ap (λ b. if b then Some s.place else None) has) ∙ sym (ap cursor_of (behind s ss q true e are.apart.1)) ∙ are.cursors q
    by q false e = sym (ap cursor_of (behind s ss q false e are.apart.1)) ∙ are.cursors q

-- the cursor 0, and those of the streams that have one
pub cursor_count : (streams : List Stream) (places : Places) → CursorsAreStreams places streams → is_some (place_of places 0) ≡ true → finite.len places ≡ 1 + length (filter (λ s. s.cursor) streams)
cursor_count [] places are there = alone_count places are there
cursor_count (s ∷ ss) places are there = by (cursor_count ss) s.cursor refl
  where
    by : ((m : Places) → CursorsAreStreams m ss → is_some (place_of m 0) ≡ true → finite.len m ≡ 1 + length (filter (λ s. s.cursor) ss)) → (b : Bool) → s.cursor ≡ b → finite.len places ≡ 1 + length (cond b (s ∷ filter (λ s. s.cursor) ss) (filter (λ s. s.cursor) ss))
    by ih true e =
        let found : stream_at s.id (s ∷ ss) ≡ Some s = ap (λ b. cond b (Some s) (stream_at s.id ss)) (own s.id) in
        let cursor : is_some (place_of places s.id) ≡ true = ap is_some (fed_at places (s ∷ ss) s.id s are found e) in
        let zero : is_some (place_of (finite.remove places s.id) 0) ≡ true = ap is_some (zero_removed places s.id are.apart.0) ∙ there in
        let rest : finite.len (finite.remove places s.id) ≡ 1 + length (filter (λ s. s.cursor) ss) = ih (finite.remove places s.id) (first_gone places s ss are) zero in
        let less : finite.len (finite.remove places s.id) ≡ finite.len places - 1 = one_less places s.id cursor in
        omega arith
      where
        own : (n : ℕ) → (n == n) ≡ true
        own n = grind (arith, nat_tests)
    by ih false e = ih places (first_none places s ss are e) there
