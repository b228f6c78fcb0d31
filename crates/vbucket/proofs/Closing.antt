-- what closing a stream comes to, and where a stream's changes come from
use Rattle.std.proofs.Common.{◌≡◌, ◌≢◌, ℕ, ◌<◌, ◌≤◌, Bool, true, false, List, [], ◌∷◌, map, refl, sym, ap, ◌∙◌, inl, inr, ⊎_elim, arith}
use Rattle.std.specs.Prelude.{Option, Some, None, ◌==◌, not, is_some, if◌then◌else◌}
use Rattle.std.proofs.lemmas.Bool.Decides.{nat_tests}
use Rattle.vb_calls.specs.declared.stream.Stream.{Stream}
use Rattle.vb_calls.specs.declared.calls.VbAnswer.TheVariants as answer
use Rattle.vb_calls.specs.State.{Plain, quiet_reply}
use Rattle.vb_calls.specs.Streams.{without_stream, is_in_memory, memory_from, place_from, placed_by, stream_at}
use Rattle.vbucket.specs.Closing.{AreOthers, ClosesAs, ClosesExactly, PlacesAs, PlacesExactly, with_its}
use Rattle.vbucket.proofs.Asks.{is_open, not_open}
use Rattle.vbucket.proofs.Feeding.{named}
use Rattle.vbucket.proofs.Parts.{most_not, most_of}

same : (a b : ℕ) → (a == b) ≡ true → a ≡ b
same a b e = grind (arith, nat_tests)

other : (a b : ℕ) → (a == b) ≡ false → a ≢ b
other a b e k = grind (arith, nat_tests)

pub are_others : (id : ℕ) (ss : List Stream) → AreOthers id ss (without_stream id ss)
are_others id [] = refl
are_others id (s ∷ ss) = by (s.id == id) refl (are_others id ss)
  where
    by : (b : Bool) → (s.id == id) ≡ b → AreOthers id ss (without_stream id ss) → AreOthers id (s ∷ ss) (if not b then s ∷ without_stream id ss else without_stream id ss)
    by true e rest = inl (same s.id id e, rest)
    by false e rest = inr (other s.id id e, (without_stream id ss, refl, rest))

closes_as : (vb : Plain) (id : ℕ) (o : Option Stream) → stream_at id vb.streams ≡ o → ClosesAs vb id (record vb { streams = without_stream id vb.streams }, quiet_reply (answer.Flag (is_some o)))
closes_as vb id None e = record {
  others = are_others id vb.streams;
  stays = refl;
  there = (λ q. cc, λ k. absurd (not_open id vb.streams e k));
  none = (λ q. not_open id vb.streams e, λ n. refl);
}
closes_as vb id (Some s) e = record {
  others = are_others id vb.streams;
  stays = refl;
  there = (λ q. is_open id vb.streams s e, λ k. refl);
  none = (λ q. cc, λ n. absurd (n (is_open id vb.streams s e)));
}

pub closes : ClosesExactly
closes vb id = closes_as vb id (stream_at id vb.streams) refl

places_as : (vb : Plain) (id : ℕ) (o : Option Stream) → stream_at id vb.streams ≡ o → PlacesAs vb id (place_from o vb)
places_as vb id None e = record {
  absent = (λ q. not_open id vb.streams e, λ n. refl);
  memory = (λ q. cc, λ k. let z : None ≡ Some k.0 = sym e ∙ k.1 in cc);
  waits = (λ q. cc, λ k. let z : None ≡ Some k.0 = sym e ∙ k.1 in cc);
  had = λ s at has. refl;
  made = λ s at has there. let z : None ≡ Some s = sym e ∙ at in cc;
  still = λ n. refl;
}
places_as vb id (Some s) e = by s.cursor (is_in_memory vb s.place) refl refl
  where
    it : (t : Stream) → stream_at id vb.streams ≡ Some t → s ≡ t
    it t q = let z : Some s ≡ Some t = sym e ∙ q in cc

    has_none : {A : Type 0} (t : Stream) → stream_at id vb.streams ≡ Some t → s.cursor ≡ true → t.cursor ≡ false → A
    has_none t q f g = let z : true ≡ false = sym f ∙ ap (λ (x : Stream). x.cursor) (it t q) ∙ g in cc

    back : {A : Type 0} (t : Stream) → stream_at id vb.streams ≡ Some t → memory_from vb ≤ s.place → t.place < memory_from vb → A
    back t q l m = let p : t.place ≡ s.place = ap (λ (x : Stream). x.place) (sym (it t q)) in absurd (omega arith)

    fore : {A : Type 0} (t : Stream) → stream_at id vb.streams ≡ Some t → memory_from vb ≤ t.place → s.place < memory_from vb → A
    fore t q l m = let p : t.place ≡ s.place = ap (λ (x : Stream). x.place) (sym (it t q)) in absurd (omega arith)

    by : (has there : Bool) → s.cursor ≡ has → is_in_memory vb s.place ≡ there → PlacesAs vb id (placed_by has there s vb)
    by true there f m = record {
      absent = (λ q. cc, λ n. absurd (n (is_open id vb.streams s e)));
      memory = (λ q. (s, e, inl f), λ k. refl);
      waits = (λ q. cc, λ k. has_none k.0 k.1 f k.2);
      had = λ t at has. refl;
      made = λ t at has there. has_none t at f has;
      still = λ n. absurd (n refl);
    }
    by false true f m = record {
      absent = (λ q. cc, λ n. absurd (n (is_open id vb.streams s e)));
      memory = (λ q. (s, e, inr (most_of (memory_from vb) s.place m)), λ k. refl);
      waits = (λ q. cc, λ k. back k.0 k.1 (most_of (memory_from vb) s.place m) k.3);
      had = λ t at has. let z : true ≡ false = sym has ∙ ap (λ (x : Stream). x.cursor) (sym (it t at)) ∙ f in cc;
      made = λ t at has there. ap (λ n. record vb { streams = map (with_its n) vb.streams }) (named id vb.streams s e);
      still = λ n. absurd (n refl);
    }
    by false false f m = record {
      absent = (λ q. cc, λ n. absurd (n (is_open id vb.streams s e)));
      memory = (λ q. cc, λ k. absurd (⊎_elim (λ has. let z : true ≡ false = sym has ∙ ap (λ (x : Stream). x.cursor) (sym (it k.0 k.1)) ∙ f in cc) (λ l. fore k.0 k.1 l (most_not (memory_from vb) s.place m)) k.2));
      waits = (λ q. (s, e, f, most_not (memory_from vb) s.place m), λ k. refl);
      had = λ t at has. refl;
      made = λ t at has there. let p : t.place ≡ s.place = ap (λ (x : Stream). x.place) (sym (it t at)) in let l = most_not (memory_from vb) s.place m in absurd (omega arith);
      still = λ n. refl;
    }

pub places : PlacesExactly
places vb id = places_as vb id (stream_at id vb.streams) refl
