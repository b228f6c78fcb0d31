-- frames of a stream that are put on their way
use Rattle.std.specs.Prelude.{◌≡◌, ◌+◌, ◌<◌, ◌≤◌, ◌∷◌, ◌++◌}
use Rattle.transcript_law.proofs.Words.{IsOf, ℕ, zero, suc, List, [], Option, Position, Frame, Role, length, drop, take, refl, ap, sym, ◌∙◌, subst, inl, inr, ⊎_elim, arith, append-nil, append_assoc, Some, None}
use Rattle.transcript_law.proofs.{Words.{slice_get, ◌^◌, All, Readable, dcp_frame, Act, Change, Doc, IsIn, plain_act, flight_end, act_message, STATE_CHANGED}, invariant.Agreement.{DocFits, ChangeFits, ActFits}}
use Rattle.transcript_law.proofs.invariant.Agreement.{change_frame, items_frames, flight_frames, flight_of, stream_frames, tail_frames, coming_items, marker_start, Handing, is_sending}
use Rattle.{std.proofs.lemmas.List.{drop_all}, std.specs.Prelude.{Bool, true, false}, vb_types.specs.Histories.{plain}, vb_types.specs.declared.change.Act.TheVariants.{Abort, Commit, Prepare, Remove, Set}}
use Rattle.mcbp_dcp.specs.declared.message.DcpMsg.TheVariants as msg
pub use Rattle.std.proofs.lemmas.Option.{slice_get_within as found_below}
use Rattle.dcp_consumer.specs.PassiveStreams.{commit_act}
use Rattle.dcp_producer.specs.Frames.{ALL_SENT, marker_flags, prepare_message}
use Rattle.transcript_law.proofs.links.Frames.{readable}
use Rattle.vb_types.specs.declared.change.Level.{Level}

-- what is found in a list
pub all_found : {X : Type 0} (P : X → Type 0) (xs : List X) (i : ℕ) (x : X) → All P xs → slice_get xs i ≡ Some x → P x
all_found P [] i x a e = cc
all_found P (y ∷ xs) zero x a e = let q : y ≡ x = cc in subst P q (a zero y (omega arith))
all_found P (y ∷ xs) (suc i) x a e = all_found P xs i x (λ j d m. a (suc j) d (omega arith)) e

pub all_in : (P : Change → Type 0) (xs : List Change) (x : Change) → All P xs → IsIn x xs → P x
all_in P [] x a i = absurd i
all_in P (y ∷ xs) x a i = ⊎_elim (λ e. subst P (sym e) (a zero y (omega arith))) (λ k. all_in P xs x (λ j d m. a (suc j) d (omega arith)) k) i

pub all_by_each : (P : Change → Type 0) (xs : List Change) → ((x : Change) → IsIn x xs → P x) → All P xs
all_by_each P [] f k d l = absurd (omega arith)
all_by_each P (y ∷ xs) f zero d l = f y (inl refl)
all_by_each P (y ∷ xs) f (suc k) d l = all_by_each P xs (λ x i. f x (inr i)) k d (omega arith)

pub not_found : {X : Type 0} (xs : List X) (i : ℕ) → slice_get xs i ≡ None → length xs ≤ i
not_found [] i e = omega arith
not_found (y ∷ xs) zero e = cc
not_found (y ∷ xs) (suc i) e = let l = not_found xs i e in omega arith

found_at_drop : {X : Type 0} (xs : List X) (i : ℕ) (x : X) → slice_get xs i ≡ Some x → drop i xs ≡ x ∷ drop (suc i) xs
found_at_drop [] i x e = cc
found_at_drop (y ∷ xs) zero x e = let q : y ≡ x = cc in ap (λ z. z ∷ xs) q
found_at_drop (y ∷ xs) (suc i) x e = found_at_drop xs i x e

found_at_take : {X : Type 0} (xs : List X) (i : ℕ) (x : X) → slice_get xs i ≡ Some x → take (suc i) xs ≡ take i xs ++ x ∷ []
found_at_take [] i x e = cc
found_at_take (y ∷ xs) zero x e = let q : y ≡ x = cc in ap (λ z. z ∷ []) q
found_at_take (y ∷ xs) (suc i) x e = ap (λ ys. y ∷ ys) (found_at_take xs i x e)

pub drop_found : {X : Type 0} (xs : List X) (i : ℕ) (x : X) → slice_get xs i ≡ Some x → drop i xs ≡ x ∷ drop (i + 1) xs
drop_found xs i x e = let on : suc i ≡ i + 1 = omega arith in found_at_drop xs i x e ∙ ap (λ n. x ∷ drop n xs) on

pub take_found : {X : Type 0} (xs : List X) (i : ℕ) (x : X) → slice_get xs i ≡ Some x → take (i + 1) xs ≡ take i xs ++ x ∷ []
take_found xs i x e = let on : i + 1 ≡ suc i = omega arith in ap (λ n. take n xs) on ∙ found_at_take xs i x e

pub drop_whole : {X : Type 0} (xs : List X) (i : ℕ) → length xs ≤ i → drop i xs ≡ []
drop_whole xs i l = drop_all i xs l

-- the frame of a change

-- what a message tells of an act: of a commit the prepare that it names, and no document
abbrev pub act_told : Act → Act
act_told (Set doc) = Set doc
act_told (Remove cas rev) = Remove cas rev
act_told (Prepare level doc deleted) = Prepare level doc deleted
act_told (Commit prepared doc deleted) = commit_act prepared
act_told (Abort prepared) = Abort prepared

-- and of its change
abbrev pub change_line : Change → Change
change_line c = record { seq = c.seq; key = c.key; act = act_told c.act }

pub plain_fits : (c : Change) → ChangeFits c → ChangeFits (plain c)
plain_fits c f = record { seq = f.seq; key = f.key; act = by c.act f.act }
  where
    by : (a : Act) → ActFits a → ActFits (plain_act a)
    by (Set doc) g = g
    by (Remove cas rev) g = g
    by (Prepare level doc deleted) g = g
    by (Commit prepared doc true) g = (g.1.cas, g.1.rev)
    by (Commit prepared doc false) g = g.1
    by (Abort prepared) g = g

-- a change of a history whose changes fit fits
pub fits_of : (h : List Change) (x : Change) → All ChangeFits h → IsOf h x → ChangeFits x
fits_of h x a (y, is, stands) =
    let f : ChangeFits y = all_in ChangeFits h y a is in ⊎_elim (λ e. subst ChangeFits (sym e) f) (λ e. subst ChangeFits (sym e) (plain_fits y f)) stands

set_readable : (c : Change) (doc : Doc) (o v : ℕ) → ChangeFits c → DocFits doc → o < 2 ^ 32 → v < 1024
    → Readable (dcp_frame (msg.Mutation (record { seq = c.seq; rev = doc.rev; cas = doc.cas; flags = doc.flags; expiry = doc.expiry; datatype = doc.datatype; key = c.key; value = doc.value })) o v)
unfolding dcp_frame
set_readable c doc o v f g few l = search (arith, f.key, g.value)

remove_readable : (c : Change) (cas rev o v : ℕ) → ChangeFits c → (cas < 2 ^ 64) × (rev < 2 ^ 64) → o < 2 ^ 32 → v < 1024
    → Readable (dcp_frame (msg.Deletion (record { seq = c.seq; rev = rev; cas = cas; key = c.key })) o v)
unfolding dcp_frame
remove_readable c cas rev o v f g few l = search (arith, f.key, g)

prepare_readable : (c : Change) (level : Level) (doc : Doc) (deleted : Bool) (o v : ℕ) → ChangeFits c → DocFits doc → o < 2 ^ 32 → v < 1024 → Readable (dcp_frame (prepare_message c level doc deleted) o v)
unfolding dcp_frame
prepare_readable c level doc true o v f g few l = search (arith, f.key, g.value)
prepare_readable c level doc false o v f g few l = search (arith, f.key, g.value)

commit_readable : (c : Change) (prepared o v : ℕ) → ChangeFits c → o < 2 ^ 32 → v < 1024 → Readable (dcp_frame (msg.Commit (record { prepared = prepared; seq = c.seq; key = c.key })) o v)
unfolding dcp_frame
commit_readable c prepared o v f few l = search (arith, f.key)

abort_readable : (c : Change) (prepared o v : ℕ) → ChangeFits c → o < 2 ^ 32 → v < 1024 → Readable (dcp_frame (msg.Abort (record { prepared = prepared; seq = c.seq; key = c.key })) o v)
unfolding dcp_frame
abort_readable c prepared o v f few l = search (arith, f.key)

told_readable : (c : Change) (a : Act) (o v : ℕ) → ChangeFits c → ActFits a → o < 2 ^ 32 → v < 1024 → Readable (dcp_frame (act_message c a) o v)
told_readable c (Set doc) o v f g few l = set_readable c doc o v f g few l
told_readable c (Remove cas rev) o v f g few l = remove_readable c cas rev o v f g few l
told_readable c (Prepare level doc deleted) o v f g few l = prepare_readable c level doc deleted o v f g.0 few l
told_readable c (Commit prepared doc deleted) o v f g few l = commit_readable c prepared o v f few l
told_readable c (Abort prepared) o v f g few l = abort_readable c prepared o v f few l

-- the frame of a change that fits is readable
pub change_readable : (c : Change) (o v : ℕ) → ChangeFits c → o < 2 ^ 32 → v < 1024 → Readable (change_frame o v c)
change_readable c o v f few l = told_readable c c.act o v f f.act few l

-- and so are those of a marker and of a stream's end

pub marker_readable : (start end flags o v : ℕ) → o < 2 ^ 32 → v < 1024 → Readable (dcp_frame (msg.SnapshotMarker start end flags) o v)
unfolding dcp_frame
marker_readable start end flags o v few l = search arith

pub end_readable : (o v : ℕ) → o < 2 ^ 32 → v < 1024 → Readable (dcp_frame (msg.StreamEnd STATE_CHANGED) o v)
unfolding dcp_frame
end_readable o v few l = search arith

pub done_readable : (o v : ℕ) → o < 2 ^ 32 → v < 1024 → Readable (dcp_frame (msg.StreamEnd ALL_SENT) o v)
unfolding dcp_frame
done_readable o v few l = search arith

-- and of a state
pub state_readable : (told : Role) (o v : ℕ) → o < 2 ^ 32 → v < 1024 → Readable (dcp_frame (msg.SetVbucketState told) o v)
state_readable told o v few l = readable (msg.SetVbucketState told) o v tt tt few (omega arith) (omega arith)

-- frames of lists of changes and of snapshots

pub flight_frames_push : (o v start end : ℕ) (disk : Bool) (items : List Change) (snapshots : List (Bool × (ℕ × List Change)))
    → flight_frames o v [] start (snapshots ++ (disk, (end, items)) ∷ []) ≡ flight_frames o v [] start snapshots ++ (dcp_frame (msg.SnapshotMarker (flight_end start (flight_of snapshots)) end (marker_flags disk)) o v ∷ items_frames o v items)
flight_frames_push o v start end disk items [] = ap (λ fs. dcp_frame (msg.SnapshotMarker start end (marker_flags disk)) o v ∷ fs) (append-nil (items_frames o v items))
flight_frames_push o v start end disk items (s ∷ more) = ap (λ fs. dcp_frame (msg.SnapshotMarker start s.1.0 (marker_flags s.0)) o v ∷ fs)
    (ap (λ fs. items_frames o v s.1.1 ++ fs) (flight_frames_push o v s.1.0 end disk items more)
    ∙ sym (append_assoc (items_frames o v s.1.1) (flight_frames o v [] s.1.0 more) (dcp_frame (msg.SnapshotMarker (flight_end s.1.0 (flight_of more)) end (marker_flags disk)) o v ∷ items_frames o v items)))

-- none are on their way
pub none_sourced : (snapshots : List (Bool × (ℕ × List Change))) → flight_of snapshots ≡ [] → snapshots ≡ []
none_sourced [] e = refl
none_sourced (s ∷ more) e = cc

-- what is behind them
pub flight_frames_tail : (o v : ℕ) (tail : List Frame) (start : ℕ) (snapshots : List (Bool × (ℕ × List Change))) → flight_frames o v tail start snapshots ≡ flight_frames o v [] start snapshots ++ tail
flight_frames_tail o v tail start [] = refl
flight_frames_tail o v tail start (s ∷ more) = ap (λ fs. dcp_frame (msg.SnapshotMarker start s.1.0 (marker_flags s.0)) o v ∷ fs)
    (ap (λ fs. items_frames o v s.1.1 ++ fs) (flight_frames_tail o v tail s.1.0 more)
    ∙ sym (append_assoc (items_frames o v s.1.1) (flight_frames o v [] s.1.0 more) tail))

-- one frame more behind all of them
pub frames_behind : (o v : ℕ) (in_one : Bool) (p : Position) (coming : Option (List Change)) (snapshots : List (Bool × (ℕ × List Change))) (tail front put : List Frame) (f : Frame)
    → front ++ stream_frames o v tail in_one p coming snapshots ≡ put → front ++ stream_frames o v (tail ++ f ∷ []) in_one p coming snapshots ≡ put ++ f ∷ []
frames_behind o v in_one p coming snapshots tail front put f old =
    let start : ℕ = marker_start in_one p in let here : List Frame = items_frames o v (coming_items coming) in let there : List Frame = flight_frames o v [] start snapshots in
    ap (λ fs. front ++ (here ++ fs)) (flight_frames_tail o v (tail ++ f ∷ []) start snapshots ∙ sym (append_assoc there tail (f ∷ [])) ∙ ap (λ fs. fs ++ f ∷ []) (sym (flight_frames_tail o v tail start snapshots)))
    ∙ ap (λ fs. front ++ fs) (sym (append_assoc here (flight_frames o v tail start snapshots) (f ∷ [])))
    ∙ sym (append_assoc front (here ++ flight_frames o v tail start snapshots) (f ∷ []))
    ∙ ap (λ fs. fs ++ f ∷ []) old

-- the tail of a stream that puts its snapshots, and what the stream's end adds to one
pub sending_tail : (o v : ℕ) (h : Handing) → is_sending h ≡ true → tail_frames o v h false ≡ []
sending_tail o v Handing.Unstated e = refl
sending_tail o v Handing.Ceded e = refl
sending_tail o v other e = cc

pub over_tail : (o v : ℕ) (h : Handing) → tail_frames o v h true ≡ tail_frames o v h false ++ dcp_frame (msg.StreamEnd STATE_CHANGED) o v ∷ []
over_tail o v Handing.Unstated = refl
over_tail o v Handing.Offered = refl
over_tail o v Handing.Pended = refl
over_tail o v Handing.Due = refl
over_tail o v Handing.Ceded = refl
over_tail o v Handing.Stated = refl

pub flight_end_push : (from end : ℕ) (items : List Change) (flight : List (ℕ × List Change)) → flight_end from (flight ++ (end, items) ∷ []) ≡ end
flight_end_push from end items [] = refl
flight_end_push from end items (x ∷ more) = flight_end_push x.0 end items more
