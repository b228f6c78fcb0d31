-- what is to come for a consumer, and which of it was put
use Rattle.std.specs.Prelude.{◌≡◌, ◌⊎◌, ◌+◌, ◌≤◌, ◌∷◌, ◌++◌}
use Rattle.transcript_law.proofs.Words.{ℕ, Bool, true, false, List, [], length, map, drop, refl, ap, sym, ◌∙◌, subst, inl, inr, arith, append-nil, append_assoc, Option, Some, slice_get}
use Rattle.transcript_law.proofs.{Words.{length-append, map-append, Frame, Change, flight_end, past_item, PlainStream, ItemLine, item_of_change}, invariant.Agreement.{change_frame}}
use Rattle.transcript_law.proofs.{invariant.Agreement.{items_frames, flight_frames, flight_of, coming_items, flight_items, flight_marks, Handing, LastAgrees, ComingIs, is_sending, tail_frames}, links.Sent.{drop_found, drop_whole}}
use Rattle.std.proofs.lemmas.List.{length-drop, length-map}

-- the last snapshot on its way

pub last_push : (end : ℕ) (items : List Change) (flight : List (ℕ × List Change)) → LastAgrees items (flight ++ (end, items) ∷ [])
last_push end items [] = refl
last_push end items (x ∷ []) = refl
last_push end items (x ∷ y ∷ more) = last_push end items (y ∷ more)

last_most : (items : List Change) (x : ℕ × List Change) (more : List (ℕ × List Change)) → LastAgrees items (x ∷ more) → length items ≤ length (flight_items (x ∷ more))
last_most items x [] l =
    let same : length (x.1 ++ []) ≡ length items = ap (λ (xs : List Change). length xs) (append-nil x.1 ∙ l) in omega (arith, same)
last_most items x (y ∷ more) l =
    let rest : length items ≤ length (flight_items (y ∷ more)) = last_most items y more l in
    let all = length-append x.1 (flight_items (y ∷ more)) in omega (arith, rest, all)

items_push : (end : ℕ) (items : List Change) (flight : List (ℕ × List Change)) → flight_items (flight ++ (end, items) ∷ []) ≡ flight_items flight ++ items
items_push end items [] = append-nil items
items_push end items (x ∷ more) = ap (λ ys. x.1 ++ ys) (items_push end items more) ∙ sym (append_assoc x.1 (flight_items more) items)

pub marks_push : (start end : ℕ) (items : List Change) (flight : List (ℕ × List Change)) → flight_marks start (flight ++ (end, items) ∷ []) ≡ flight_marks start flight ++ (flight_end start flight, end) ∷ []
marks_push start end items [] = refl
marks_push start end items (x ∷ more) = ap (λ ms. (start, x.0) ∷ ms) (marks_push x.0 end items more)

-- what comes, after a step of the producer

-- one more item was put
pub item_comes : (told : List ItemLine) (stream : PlainStream) (flight : List (ℕ × List Change)) (coming : Option (List Change)) (c : Change) → slice_get stream.items stream.next ≡ Some c
    → ComingIs told stream flight coming → ComingIs (told ++ item_of_change c ∷ []) (past_item c.seq stream) flight coming
item_comes told stream flight coming c e s = record {
  all = s.all ∙ ap (λ xs. told ++ map item_of_change xs) (drop_found stream.items stream.next c e) ∙ sym (append_assoc told (item_of_change c ∷ []) (map item_of_change (drop (stream.next + 1) stream.items)));
  last = s.last;
}

-- one more snapshot was begun, behind a whole one
pub snapshot_comes : (told : List ItemLine) (stream after : PlainStream) (flight : List (ℕ × List Change)) (coming : Option (List Change)) (end : ℕ) → length stream.items ≤ stream.next → after.next ≡ 0
    → ComingIs told stream flight coming → ComingIs told after (flight ++ (end, after.items) ∷ []) coming
snapshot_comes told stream after flight coming end whole first s = record {
  all = ap (λ ys. map item_of_change (coming_items coming ++ ys)) (items_push end after.items flight)
      ∙ ap (map item_of_change) (sym (append_assoc (coming_items coming) (flight_items flight) after.items))
      ∙ map-append item_of_change (coming_items coming ++ flight_items flight) after.items
      ∙ ap (λ ys. ys ++ map item_of_change after.items) (s.all ∙ ap (λ ys. told ++ map item_of_change ys) (drop_whole stream.items stream.next whole) ∙ append-nil told)
      ∙ ap (λ k. told ++ map item_of_change (drop k after.items)) (sym first);
  last = last_push end after.items flight;
}

-- the consumer took the marker of the first one on its way
pub marker_comes : (told : List ItemLine) (stream : PlainStream) (x : ℕ × List Change) (more : List (ℕ × List Change)) → ComingIs told stream (x ∷ more) (Some []) → ComingIs told stream more (Some x.1)
marker_comes told stream x more s = record { all = s.all; last = elim more as (λ xs. LastAgrees stream.items (x ∷ xs) → LastAgrees stream.items xs) [ [] ↦ (λ l. tt) | y ∷ ys ↦ (λ l. l) ] s.last }

-- frames of changes

items_all : (o v : ℕ) (xs : List Change) → length (items_frames o v xs) ≡ length xs
items_all o v xs = length-map xs (change_frame o v)

-- the frame of a change comes: its item was put

module _ (o v start : ℕ) (given : Handing) (over : Bool) (stream : PlainStream) (c : Change) (later : List Change) (more unput : List Frame)
    (unput_is : unput ≡ items_frames o v (drop stream.next stream.items)) (all_put : over ≡ true → unput ≡ []) (stated_behind : is_sending given ≡ false → unput ≡ []) where
  abbrev left : List Change
  left = drop stream.next stream.items

  unput_len : length unput ≡ length left
  unput_len = ap (λ (fs : List Frame). length fs) unput_is ∙ items_all o v left

  abbrev tail : List Frame
  tail = tail_frames o v given over

  -- all was put, or nothing is behind the snapshots
  all_or_none : (unput ≡ []) ⊎ (tail ≡ [])
  all_or_none = by over refl given refl
    where
      by : (b : Bool) → over ≡ b → (h : Handing) → given ≡ h → (unput ≡ []) ⊎ (tail_frames o v h b ≡ [])
      by true e h q = inl (all_put e)
      by false e Handing.Unstated q = inr refl
      by false e Handing.Ceded q = inr refl
      by false e other q = inl (stated_behind (ap is_sending q))

  -- where no item that was put is to come, more are left than there are
  none_put : (snapshots : List (Bool × (ℕ × List Change))) → LastAgrees stream.items (flight_of snapshots) → length left ≡ 1 + (length later + length (flight_items (flight_of snapshots))) → (unput ≡ []) ⊎ (tail ≡ [])
      → items_frames o v later ++ flight_frames o v tail start snapshots ≡ more ++ unput → ⊥
  none_put [] l e (inl put) frames =
      let none : length unput ≡ 0 = ap (λ (fs : List Frame). length fs) put in let same = unput_len in omega (arith, none, same, e)
  none_put [] l e (inr none) frames =
      let most : length (items_frames o v later) ≡ length later = items_all o v later in
      let lens : length (items_frames o v later ++ []) ≡ length (more ++ unput) = ap (λ (fs : List Frame). length (items_frames o v later ++ fs)) (sym none) ∙ ap (λ (fs : List Frame). length fs) frames in
      let before = length-append (items_frames o v later) [] in let after = length-append more unput in let same = unput_len in
      omega (arith, most, lens, before, after, same, e)
  none_put (s ∷ more) l e q frames =
      let most : length left ≤ length stream.items = (let e = length-drop stream.next stream.items in omega (arith, e)) in
      let few : length stream.items ≤ length (flight_items (flight_of (s ∷ more))) = last_most stream.items s.1 (flight_of more) l in omega (arith, most, few, e)

  -- the first item that was put is this one's
  pub next_item_line : (snapshots : List (Bool × (ℕ × List Change))) (flight : List (ℕ × List Change)) → flight_of snapshots ≡ flight → (told : List ItemLine) → ComingIs told stream flight (Some (c ∷ later))
      → items_frames o v later ++ flight_frames o v tail start snapshots ≡ more ++ unput → (rest : List ItemLine) × (told ≡ item_of_change c ∷ rest) × (map item_of_change (later ++ flight_items flight) ≡ rest ++ map item_of_change left)
  next_item_line snapshots flight are [] s frames =
      let lens : length (map item_of_change (c ∷ (later ++ flight_items flight))) ≡ length (map item_of_change left) = ap (λ (xs : List ItemLine). length xs) s.all in
      let before = length-map (c ∷ (later ++ flight_items flight)) item_of_change in let after = length-map left item_of_change in
      let both = length-append later (flight_items flight) in
      let more_left : length left ≡ 1 + (length later + length (flight_items flight)) = omega (arith, lens, before, after, both) in
      absurd (none_put snapshots (subst (LastAgrees stream.items) (sym are) s.last) (subst (λ xs. length left ≡ 1 + (length later + length (flight_items xs))) (sym are) more_left) all_or_none frames)
  next_item_line snapshots flight are (t ∷ rest) s frames =
      let first : item_of_change c ∷ map item_of_change (later ++ flight_items flight) ≡ t ∷ (rest ++ map item_of_change left) = s.all in
      let same : item_of_change c ≡ t = cc in (rest, ap (λ x. x ∷ rest) (sym same), ap (drop 1) first)

-- and the consumer took it
pub taken_comes : (told : List ItemLine) (stream : PlainStream) (flight : List (ℕ × List Change)) (c : Change) (later : List Change) → ComingIs told stream flight (Some (c ∷ later))
    → ((rest : List ItemLine) × (told ≡ item_of_change c ∷ rest) × (map item_of_change (later ++ flight_items flight) ≡ rest ++ map item_of_change (drop stream.next stream.items)))
    → ComingIs (drop 1 told) stream flight (Some later)
taken_comes told stream flight c later s (rest, is, all) = record { all = all ∙ ap (λ ts. drop 1 ts ++ map item_of_change (drop stream.next stream.items)) (sym is); last = s.last }
