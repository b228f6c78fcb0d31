-- what a seat's calls, cuts and joins make of what it has seen and done
use Rattle.std.proofs.Common.{◌≡◌, ℕ, zero, suc, ◌+◌, ◌-◌, ◌<◌, ◌≤◌, List, [], ◌∷◌, ◌++◌, length, map, Some, refl, sym, ap, ◌∙◌, subst, arith, append_assoc, append-nil, length-append, inl, inr, ◌⊎◌}
use mathlib.Core.List.{IsPrefix}
use Rattle.vb_types.specs.declared.write.Write.{Write}
use Rattle.vb_calls.specs.declared.calls.VbCall.{VbCall}
use Rattle.vb_calls.specs.declared.calls.VbCall.TheVariants as call
use Rattle.vb_calls.specs.declared.calls.VbReply.{VbReply}
use Rattle.vb_calls.specs.Plain.{Plain, plain_step}
use Rattle.vb_turn.specs.History.{after, Legal}
use Rattle.vb_turn.specs.Turning.{all_parts, Orderly, left, right}
use Rattle.vb_turn.specs.Seats.{Called, Gathered as TakenIn}
use Rattle.vb_turn.specs.declared.view.View.{View}
use Rattle.vb_turn.proofs.Fronts.{prefix_self, prefix_trans}
use Rattle.vb_turn.proofs.Histories.{after_snoc}
use Rattle.vb_turn.proofs.Learning.{long_is, mine_is, prefix_long, seats_split_and_join}
use Rattle.vb_turn.proofs.Saying.{histories_say_what_is_legal}
use Rattle.storm_model.specs.Merging.{Rising}
use Rattle.storm_model.specs.Sums.{storm_new}
use Rattle.storm_seats.specs.Views.{AreStoresOf, Entry, Knows, RisingTo, StandsAt, Wrote, opens_first, opens_second, openings, placed_openings}

pub map_append : {X Y : Type 0} (f : X → Y) (xs ys : List X) → map f (xs ++ ys) ≡ map f xs ++ map f ys
map_append f [] ys = refl
map_append f (x ∷ xs) ys = ap (λ l. f x ∷ l) (map_append f xs ys)

front_more : {A : Type 0} (xs more : List A) → IsPrefix xs (xs ++ more)
front_more xs more = (more, refl)

no_more : {A : Type 0} (xs more : List A) → length (xs ++ more) ≡ length xs → xs ++ more ≡ xs
no_more xs [] e = append-nil xs
no_more xs (m ∷ more) e = let n = length-append xs (m ∷ more) in absurd (omega arith)

-- a front part that is as long is the whole
pub whole_front : {A : Type 0} (xs ys : List A) → IsPrefix xs ys → length ys ≡ length xs → ys ≡ xs
whole_front xs ys p e = sym p.1 ∙ no_more xs p.0 (ap length p.1 ∙ e)

rising_more : (from to n : ℕ) (e : Entry) (ms : List (ℕ × Entry)) → RisingTo from ms to → to ≤ n → RisingTo from (ms ++ (n, e) ∷ []) (n + 1)
rising_more from to n e [] h l = (omega arith, omega arith)
rising_more from to n e (m ∷ ms) h l = (h.0, rising_more (suc m.0) to n e ms h.1 l)

-- rising places rise from a lower one on too
pub rising : (from to : ℕ) (ms : List (ℕ × Entry)) → RisingTo from ms to → Rising from ms
rising from to [] h = tt
rising from to (m ∷ ms) h = (h.0, rising (suc m.0) to ms h.1)

module _ {M : Type 0} (stands : M → Plain → Type 0) (number : Plain → ℕ) where
  abbrev Seat : Type 0
  Seat = View M Entry

  seen_is : (v w : Seat) (e : Entry) (c : Called stands plain_step number v e w) → w.seen ≡ c.base ++ e ∷ []
  seen_is v w e c = ap (λ (x : Seat). x.seen) c.new

  -- a seat that stored nothing yet
  pub wrote_none : (x : Seat) → Wrote stands [] x x
  wrote_none x = record {
    part = [];
    mine = sym (append-nil x.mine);
    rising = omega arith;
    stores = refl;
    front = prefix_self x.seen;
    legal = λ o is s st l. l;
    same = (refl, refl);
  }

  -- one that stores one write more
  pub wrote_more : (ws : List Write) (w : Write) (x y z : Seat) (reply : VbReply) → Wrote stands ws x y → Called stands plain_step number y (call.Store w 0, reply) z → Wrote stands (ws ++ w ∷ []) x z
  wrote_more ws w x y z reply h c =
      let e : Entry = (call.Store w 0, reply) in
      let seen = seen_is y z e c in
      record {
        part = h.part ++ (length c.base, e) ∷ [];
        mine = mine_is stands plain_step number y z e c ∙ ap (λ l. l ++ (length c.base, e) ∷ []) h.mine ∙ append_assoc x.mine h.part ((length c.base, e) ∷ []);
        rising = subst (RisingTo (length x.seen) (h.part ++ (length c.base, e) ∷ [])) (sym (long_is stands plain_step number y z e c))
            (rising_more (length x.seen) (length y.seen) (length c.base) e h.part h.rising (prefix_long y.seen c.base c.front));
        stores = map_append (λ m. m.1.0) h.part ((length c.base, e) ∷ []) ∙ ap (λ l. l ++ call.Store w 0 ∷ []) h.stores ∙ sym (map_append (λ w. call.Store w 0) ws (w ∷ []));
        front = prefix_trans x.seen y.seen z.seen h.front (subst (IsPrefix y.seen) (sym seen) (prefix_trans y.seen c.base (c.base ++ e ∷ []) c.front (front_more c.base (e ∷ []))));
        legal = λ o is s st l. subst (Legal plain_step s) (sym seen) (c.legal o (h.same.0 ∙ is) s st).0;
        same = (ap (λ (t : Seat). t.opening) c.new ∙ h.same.0, ap (λ (t : Seat). t.parts) c.new ∙ h.same.1);
      }

  -- what a seat knows, it knows behind its calls
  pub still_knows : (v : ℕ) (ws : List Write) (x y : Seat) → Knows stands v x → Wrote stands ws x y → Knows stands v y
  still_knows v ws x y k h = record {
    object = k.object;
    opening = h.same.0 ∙ k.opening;
    stood = k.stood;
    front = prefix_trans (openings v) x.seen y.seen k.front h.front;
    legal = h.legal k.object k.opening (storm_new v) k.stood k.legal;
  }

  -- what is seen by both of two that are joined, the joined seat knows
  pub joined_knows : (v : ℕ) (x u w : Seat) → Knows stands v x → Knows stands v u → TakenIn x u w → Knows stands v w
  joined_knows v x u w k l g =
      let same : w.opening ≡ x.opening = ap (λ (t : Seat). t.opening) g.1.3 in
      let seen = (seats_split_and_join stands plain_step).seen x u w g in
      record {
        object = k.object;
        opening = same ∙ k.opening;
        stood = k.stood;
        front = prefix_trans (openings v) x.seen w.seen k.front seen.0;
        legal = by seen.2;
      }
    where
      by : (w.seen ≡ x.seen) ⊎ (w.seen ≡ u.seen) → Legal plain_step (storm_new v) w.seen
      by (inl e) = subst (Legal plain_step (storm_new v)) (sym e) k.legal
      by (inr e) = subst (Legal plain_step (storm_new v)) (sym e) l.legal

  -- a seat with all parts, which made all calls, is answered by the vBucket that it knows
  pub alone : (x y : Seat) (vb : Plain) (c : VbCall) (reply : VbReply) → StandsAt stands x vb → Called stands plain_step number x (c, reply) y
      → (reply ≡ (plain_step vb c).1) × StandsAt stands y (plain_step vb c).0
  alone x y vb c reply s k =
      let e : Entry = (c, reply) in
      let parts : y.parts ≡ all_parts = ap (λ (t : Seat). t.parts) k.new ∙ s.parts in
      let whole : length y.mine ≡ length y.seen = (k.orderly.2 parts).0 in
      let long = long_is stands plain_step number x y e k in
      let own : length y.mine ≡ length x.mine + 1 = ap length (mine_is stands plain_step number x y e k) ∙ length-append x.mine ((length k.base, e) ∷ []) in
      let was = s.whole in
      let base : k.base ≡ x.seen = whole_front x.seen k.base k.front (omega arith) in
      let legal = (k.legal s.object s.opening s.start s.stood).0 in
      let answers = ((histories_say_what_is_legal plain_step number).grown s.start k.base (e ∷ [])).0 legal in
      let here : after plain_step s.start k.base ≡ vb = ap (after plain_step s.start) base ∙ s.now in (
        sym answers.1.0 ∙ ap (λ (p : Plain). (plain_step p c).1) here,
        record {
          object = s.object;
          start = s.start;
          opening = ap (λ (t : Seat). t.opening) k.new ∙ s.opening;
          stood = s.stood;
          parts = parts;
          whole = whole;
          now = ap (after plain_step s.start) (seen_is x y e k) ∙ after_snoc plain_step s.start k.base e ∙ ap (λ (p : Plain). (plain_step p c).0) here;
        },
      )
