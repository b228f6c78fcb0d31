-- a seat that took in the seats of all clients has the storm's history
use Rattle.std.proofs.Common.{◌≡◌, ℕ, zero, suc, ◌+◌, ◌-◌, ◌<◌, ◌≤◌, List, [], ◌∷◌, ◌++◌, length, get_or, Some, slice_get, refl, sym, ap, ◌∙◌, subst, arith, append_assoc, append-nil, length-append, inl, inr, ◌⊎◌}
use Rattle.std.specs.Prelude.{true}
use Rattle.std.specs.List.{AllByRecursion, filter}
use Rattle.vb_calls.specs.declared.calls.VbReply.{VbReply}
use Rattle.vb_calls.specs.Plain.{Plain, plain_step}
use Rattle.vb_turn.specs.History.{after, Legal}
use Rattle.vb_turn.specs.Turning.{all_parts, Orderly, Whole, left, right, opened}
use Rattle.vb_turn.specs.Seats.{Called, Gathered as TakenIn}
use Rattle.vb_turn.specs.declared.view.View.{View}
use Rattle.vb_turn.proofs.Fronts.{prefix_self}
use Rattle.storm_model.specs.Histories.{AreStores, GathersStorm, HasOwner, IsStore, IsStormed, is_by, is_call_by, is_storm_call, stores, write_in}
use Rattle.storm_model.specs.Limits.{is_storm}
use Rattle.storm_model.specs.Merging.{IsAll, OnlyIn, Stand}
use Rattle.storm_model.specs.Sums.{in_turn, line_of, opened as with_readers, storm_new, storm_vb}
use Rattle.storm_model.specs.Writes.{writes_of}
use Rattle.storm_model.proofs.Agreeing.{in_limits, orders_agree}
use Rattle.storm_model.proofs.AllRead.{behind_stores, same_line}
use Rattle.storm_model.proofs.Gathering.{gathered}
use Rattle.storm_seats.specs.Gathering.{AllFrom, Gathers, IsPart, Stormed, joined}
use Rattle.storm_seats.specs.Views.{AreStoresOf, Entry, Knows, RisingTo, StandsAt, Wrote, opens_first, opens_second, openings, placed_openings, reader_opens}
use Rattle.storm_seats.proofs.Parts.{all_log, all_stores, each_is, only_one, own_one, rising_one, stand, stand_one, Is}
use Rattle.storm_seats.proofs.Seats.{alone, joined_knows, rising, still_knows, whole_front}

all_more : {A : Type 0} (P : ℕ → A → Type 0) (n : ℕ) (xs : List A) (x : A) → AllFrom P n xs → P (n + length xs) x → AllFrom P n (xs ++ x ∷ [])
all_more P n [] x a p = (subst (λ k. P k x) (let e : n + 0 ≡ n = omega arith in e) p, tt)
all_more P n (y ∷ ys) x a p = (a.0, all_more P (suc n) ys x a.1 (subst (λ k. P k x) (let e : n + suc (length ys) ≡ suc n + length ys = omega arith in e) p))

joined_more : {A : Type 0} (xss : List (List A)) (xs : List A) → joined (xss ++ xs ∷ []) ≡ joined xss ++ xs
joined_more [] xs = append-nil xs
joined_more (ys ∷ xss) xs = ap (λ t. ys ++ t) (joined_more xss xs) ∙ sym (append_assoc ys (joined xss) xs)

module _ {M : Type 0} (stands : M → Plain → Type 0) (number : Plain → ℕ) where
  abbrev Seat : Type 0
  Seat = View M Entry

  -- a seat of a new vBucket
  pub new_stands : (v : ℕ) (o : M) → stands o (storm_new v) → StandsAt stands (opened o) (storm_new v)
  new_stands v o s = record { object = o; start = storm_new v; opening = refl; stood = s; parts = refl; whole = refl; now = refl }

  -- which has both readers' streams then
  pub readers_open : (v : ℕ) (o : M) (x y : Seat) (one two : VbReply) → stands o (storm_new v)
      → Called stands plain_step number (opened o) (reader_opens 1, one) x → Called stands plain_step number x (reader_opens 2, two) y
      → (y.seen ≡ openings v) × ((seed writes : ℕ) → Gathers stands seed writes v 0 [] y)
  readers_open v o x y one two s c d =
      let a = alone stands number (opened o) x (storm_new v) (reader_opens 1) one (new_stands v o s) c in
      let b = alone stands number x y (plain_step (storm_new v) (reader_opens 1)).0 (reader_opens 2) two a.1 d in
      let base_x : c.base ≡ [] = empty c.base (let h : length x.mine ≡ length x.seen = a.1.whole in let m = ap (λ (t : Seat). length t.mine) c.new in let l = ap (λ (t : Seat). length t.seen) c.new in let n = length-append c.base ((reader_opens 1, one) ∷ []) in omega arith) in
      let seen_x : x.seen ≡ opens_first v ∷ [] = ap (λ (t : Seat). t.seen) c.new ∙ (λ i. base_x i ++ (reader_opens 1, a.0 i) ∷ []) in
      let mine_x : x.mine ≡ (0, opens_first v) ∷ [] = ap (λ (t : Seat). t.mine) c.new ∙ (λ i. (length (base_x i), (reader_opens 1, a.0 i)) ∷ []) in
      let base_y : d.base ≡ opens_first v ∷ [] = whole_front x.seen d.base d.front (let h : length y.mine ≡ length y.seen = b.1.whole in let m : length y.mine ≡ length x.mine + 1 = ap (λ (t : Seat). length t.mine) d.new ∙ length-append x.mine ((length d.base, (reader_opens 2, two)) ∷ []) in let l = ap (λ (t : Seat). length t.seen) d.new in let n = length-append d.base ((reader_opens 2, two) ∷ []) in let w : length x.mine ≡ length x.seen = a.1.whole in omega arith) ∙ seen_x in
      let seen_y : y.seen ≡ openings v = ap (λ (t : Seat). t.seen) d.new ∙ (λ i. base_y i ++ (reader_opens 2, b.0 i) ∷ []) in
      let mine_y : y.mine ≡ placed_openings v = ap (λ (t : Seat). t.mine) d.new ∙ (λ i. mine_x i ++ (length (base_y i), (reader_opens 2, b.0 i)) ∷ []) in (
        seen_y,
        λ seed writes. record {
          knows = record {
            object = o;
            opening = ap (λ (t : Seat). t.opening) d.new ∙ ap (λ (t : Seat). t.opening) c.new;
            stood = s;
            front = ([], sym seen_y);
            legal = subst (Legal plain_step (storm_new v)) (sym seen_y) (refl, (refl, tt));
          };
          count = let p : y.parts ≡ all_parts = b.1.parts in omega arith;
          mine = mine_y;
          each = tt;
          orderly = d.orderly;
        },
      )
    where
      empty : (xs : List Entry) → length xs ≡ 0 → xs ≡ []
      empty [] e = refl
      empty (z ∷ zs) e = absurd (omega arith)

  -- so many parts are given away
  pub given_away : (seed writes v out n : ℕ) (x : Seat) → Gathers stands seed writes v out [] x → 0 < n → n ≤ x.parts → Gathers stands seed writes v (out + n) [] (left n x)
  given_away seed writes v out n x g some l = record {
    knows = record { object = g.knows.object; opening = g.knows.opening; stood = g.knows.stood; front = g.knows.front; legal = g.knows.legal };
    count = let c = g.count in omega arith;
    mine = g.mine;
    each = tt;
    orderly = (g.orderly.0, g.orderly.1, λ all. absurd (let c = g.count in omega arith));
  }

  -- who has them knows as much
  pub given_knows : (v n : ℕ) (x : Seat) → Knows stands v x → Knows stands v (right n x)
  given_knows v n x k = record { object = k.object; opening = k.opening; stood = k.stood; front = k.front; legal = k.legal }

  -- one client's seat is taken in
  pub taken_in : (seed writes v out : ℕ) (parts : List (List (ℕ × Entry))) (x given u w : Seat) → Gathers stands seed writes v (suc out) parts x
      → Knows stands v given → given.seen ≡ openings v → given.mine ≡ [] → given.parts ≡ 1 → Wrote stands (writes_of seed (length parts) writes v) given u → TakenIn x u w
      → (part : List (ℕ × Entry)) × Gathers stands seed writes v out (parts ++ part ∷ []) w
  taken_in seed writes v out parts x given u w g k seen none one h t =
      let own : u.mine ≡ h.part = h.mine ∙ ap (λ l. l ++ h.part) none in (
        h.part,
        record {
          knows = joined_knows stands number v x u w g.knows (still_knows stands number v (writes_of seed (length parts) writes v) given u k h) t;
          count = let a : w.parts ≡ x.parts + u.parts = ap (λ (s : Seat). s.parts) t.1.3 in let b = h.same.1 in let c = g.count in omega arith;
          mine = ap (λ (s : Seat). s.mine) t.1.3 ∙ (λ i. g.mine i ++ own i) ∙ append_assoc (placed_openings v) (joined parts) h.part ∙ ap (λ l. placed_openings v ++ l) (sym (joined_more parts h.part));
          each = all_more (IsPart seed writes v) 0 parts h.part g.each
              (subst (λ n. IsPart seed writes v n h.part) (let e : length parts ≡ 0 + length parts = omega arith in e) (rising 2 (length u.seen) h.part (subst (λ (l : List Entry). RisingTo (length l) h.part (length u.seen)) seen h.rising), h.stores));
          orderly = (t.2, t.3, t.4);
        },
      )

  -- ---- once all are taken in

  module _ (seed clients writes v : ℕ) (fits : is_storm clients writes ≡ true) (parts : List (List (ℕ × Entry))) (x : Seat) (g : Gathers stands seed writes v 0 parts x) (n : length parts ≡ clients) where
    all : x.parts ≡ all_parts
    all = let c = g.count in omega arith

    whole : Whole x.mine x.seen
    whole = g.orderly.2 all

    abbrev mine : List (ℕ × Entry)
    mine = placed_openings v ++ joined parts

    standing : Stand x.seen mine
    standing = subst (Stand x.seen) g.mine (stand x.seen x.mine g.orderly.0)

    each : (k : ℕ) (e : Entry) → slice_get x.seen k ≡ Some e → Is clients k e
    each = each_is seed writes v clients parts x.seen (omega arith) g.each standing (subst (λ (m : List (ℕ × Entry)). IsAll m x.seen) g.mine whole.1)

    few : clients ≤ 64
    few = (in_limits clients writes fits).clients_high

    gathers : GathersStorm seed clients writes v x.seen x.mine (λ c. get_or parts c [])
    gathers = record {
      legal = g.knows.legal;
      calls = all_log (λ e. is_storm_call e.0 ≡ true) x.seen (λ k e at. (each k e at).0);
      owned = all_stores (HasOwner clients) x.seen (all_log (λ e. AllByRecursion (HasOwner clients) (write_in e.0)) x.seen (λ k e at. (each k e at).1));
      stand = stand x.seen x.mine g.orderly.0;
      all = whole.1;
      only = λ c l. subst (λ (m : List (ℕ × Entry)). OnlyIn (is_call_by c) m (get_or parts c [])) (sym g.mine) (only_one seed writes v c parts (let f = few in omega arith) (let f = few in omega arith) g.each);
      rising = λ c l. rising_one seed writes v 0 parts c g.each;
      stands = λ c l. stand_one x.seen v parts c standing;
      own = λ c l. own_one seed writes v 0 parts c g.each (omega arith) ∙ ap (λ k. writes_of seed k writes v) (let e : 0 + c ≡ c = omega arith in e);
    }

    abbrev rest : List Entry
    rest = g.knows.front.0

    seen : x.seen ≡ openings v ++ rest
    seen = sym g.knows.front.1

    behind : (k : ℕ) (e : Entry) → slice_get rest k ≡ Some e → IsStore e.0
    behind k e at = by (each (suc (suc k)) e (ap (λ (l : List Entry). slice_get l (suc (suc k))) seen ∙ at)).2
      where
        by : (suc (suc k) < 2) ⊎ IsStore e.0 → IsStore e.0
        by (inl l) = absurd (omega arith)
        by (inr s) = s

    pub stormed : Stormed stands seed clients writes v x
    stormed = record {
      knows = g.knows;
      all = all;
      whole = whole.0;
      part = λ c. get_or parts c [];
      gathers = gathers;
      rest = rest;
      seen = seen;
      behind = all_log (λ e. IsStore e.0) rest behind;
      made = (orders_agree seed clients writes v fits).made x.seen (gathered seed clients writes v x.seen x.mine (λ c. get_or parts c []) gathers);
    }

  -- ---- and what it leaves

  module _ (seed clients writes v : ℕ) (fits : is_storm clients writes ≡ true) (x : Seat) (s : Stormed stands seed clients writes v x) where
    is_stormed : IsStormed seed clients writes v (openings v ++ s.rest)
    is_stormed = subst (IsStormed seed clients writes v) s.seen (gathered seed clients writes v x.seen x.mine s.part s.gathers)

    -- the seat knows the vBucket that the writes leave
    pub stands_stormed : StandsAt stands x (storm_vb v (stores s.rest))
    stands_stormed = record {
      object = s.knows.object;
      start = storm_new v;
      opening = s.knows.opening;
      stood = s.knows.stood;
      parts = s.all;
      whole = s.whole;
      now = ap (after plain_step (storm_new v)) s.seen ∙ behind_stores s.rest (with_readers (storm_new v)) s.behind;
    }

    -- its line is that of the clients one after the other
    pub line_stormed : line_of (storm_vb v (stores s.rest)) ≡ line_of (storm_vb v (in_turn seed clients writes v))
    line_stormed = same_line seed clients writes v fits (stores s.rest) is_stormed.owned is_stormed.order
