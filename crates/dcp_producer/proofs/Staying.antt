-- a connection stays the same one, with the same streams, less those that ended
use Rattle.std.proofs.Common.{◌≡◌, ℕ, zero, suc, List, [], ◌∷◌, map, get_or, refl, sym, ap, ◌∙◌, subst, inl, inr, Option, Some, None}
use Rattle.std.specs.Prelude.{◌==◌, slice_set}
use Rattle.std.specs.List.{position, remove}
use Rattle.dcp_producer.specs.Producers.{PlainStream, PlainProducer, without_place, without_stream}
use Rattle.dcp_producer.specs.Wanting.{standing, IsPart, Stays}
use Rattle.dcp_producer.proofs.Kept.{map_less}

module _ {X : Type 0} where
  pub part_all : (xs : List X) → IsPart xs xs
  part_all [] = refl
  part_all (x ∷ xs) = inl (refl, part_all xs)

  part_tail : (x : X) (xs : List X) → IsPart (x ∷ xs) xs
  part_tail x [] = tt
  part_tail x (y ∷ xs) = inr (part_all (y ∷ xs))

  part_less : (xs : List X) (at : ℕ) → IsPart xs (remove xs at)
  part_less [] zero = refl
  part_less [] (suc at) = refl
  part_less (x ∷ xs) zero = part_tail x xs
  part_less (x ∷ xs) (suc at) = inl (refl, part_less xs at)

  part_of_part : (all a b : List X) → IsPart all a → IsPart a b → IsPart all b
  part_of_part [] a b p q = subst (λ l. IsPart l b) p q
  part_of_part (x ∷ all) [] b p q = subst (λ l. IsPart (x ∷ all) l) (sym q) tt
  part_of_part (x ∷ all) (y ∷ a) [] p q = tt
  part_of_part (x ∷ all) (y ∷ a) (z ∷ b) (inl (e, p)) (inl (e', q)) = inl (e ∙ e', part_of_part all a b p q)
  part_of_part (x ∷ all) (y ∷ a) (z ∷ b) (inl (e, p)) (inr q) = inr (part_of_part all a (z ∷ b) p q)
  part_of_part (x ∷ all) (y ∷ a) (z ∷ b) (inr p) q = inr (part_of_part all (y ∷ a) (z ∷ b) p q)

pub stays_behind : (a b c : PlainProducer) → Stays a b → Stays b c → Stays a c
stays_behind a b c (desk, shaken, asked, part) (desk', shaken', asked', part') =
    (desk' ∙ desk, shaken' ∙ shaken, asked' ∙ asked, part_of_part (map standing a.streams) (map standing b.streams) (map standing c.streams) part part')

pub stays_same : (a b : PlainProducer) → b ≡ a → Stays a b
stays_same a b is = subst (λ e. Stays a e) (sym is) (refl, refl, refl, part_all (map standing a.streams))

-- a stream less
place_less : (streams : List PlainStream) (at : Option ℕ) → IsPart (map standing streams) (map standing (without_place at streams))
place_less streams None = part_all (map standing streams)
place_less streams (Some at) = subst (λ l. IsPart (map standing streams) l) (sym (map_less standing streams at)) (part_less (map standing streams) at)

pub stays_without : (a : PlainProducer) (id : ℕ) → Stays a (without_stream id a)
stays_without a id = (refl, refl, refl, place_less a.streams (position (λ stream. stream.id == id) a.streams))

-- a stream that goes on
set_standing : (streams : List PlainStream) (at : ℕ) (stream stream' : PlainStream) → stream ≡ get_or streams at stream → standing stream' ≡ standing stream
    → map standing (slice_set streams at stream') ≡ map standing streams
set_standing [] at stream stream' there same = refl
set_standing (s ∷ more) zero stream stream' there same = ap (λ n. n ∷ map standing more) (same ∙ ap standing there)
set_standing (s ∷ more) (suc at) stream stream' there same = ap (λ ns. standing s ∷ ns) (set_standing more at stream stream' there same)

module _ (s a : PlainProducer) (is : s ≡ a) where
  pub stays_set : (at : ℕ) (stream stream' : PlainStream) → stream ≡ get_or s.streams at stream → standing stream' ≡ standing stream → Stays a (record s { streams = slice_set s.streams at stream' })
  stays_set at stream stream' there same =
      subst (λ e. Stays e (record s { streams = slice_set s.streams at stream' })) is
      (refl, refl, refl, subst (λ l. IsPart (map standing s.streams) l) (sym (set_standing s.streams at stream stream' there same)) (part_all (map standing s.streams)))

  pub stays_turn : (turn : ℕ) → Stays a (record s { turn = turn })
  stays_turn turn = subst (λ e. Stays e (record s { turn = turn })) is (refl, refl, refl, part_all (map standing s.streams))

  pub stays_behind_set : (at : ℕ) (stream stream' : PlainStream) (c : PlainProducer) → stream ≡ get_or s.streams at stream → standing stream' ≡ standing stream
      → Stays (record s { streams = slice_set s.streams at stream' }) c → Stays a c
  stays_behind_set at stream stream' c there same stays = stays_behind a (record s { streams = slice_set s.streams at stream' }) c (stays_set at stream stream' there same) stays

  pub stays_behind_turn : (turn : ℕ) (c : PlainProducer) → Stays (record s { turn = turn }) c → Stays a c
  stays_behind_turn turn c stays = stays_behind a (record s { turn = turn }) c (stays_turn turn) stays
