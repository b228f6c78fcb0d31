-- frames in bytes that come in pieces
use Rattle.std.proofs.Common.{◌≡◌, ℕ, ◌+◌, ◌-◌, ◌≤◌, zero, suc, Bool, true, false, List, [], ◌∷◌, ◌++◌, length, take, drop, refl, sym, ◌∙◌, ap, arith, subst, length-drop, append_assoc, inl}
use Rattle.std.specs.Prelude.{Option, Some, None, Result, Ok, Err, map, slice_index, slice_range}
use Rattle.std.specs.List.{All, concat}
use Rattle.std.proofs.Math.Seq.{drop-append_seam}
use Rattle.std.proofs.lemmas.List.{drop-append-le, length-take, take-append-drop}
use Rattle.std.proofs.lemmas.List.Elements.{All-head, All-tail}
use Rattle.std.proofs.lemmas.Bool.Decides.{nat_tests}
use Rattle.mcbp_frame.specs.declared.frame.Frame.{Frame}
use Rattle.mcbp_frame.specs.declared.frame.FrameFault.{FrameFault}
use Rattle.mcbp_frame.specs.Cutting.{frame_in, fault_in, front_frame, front_fault, frames_in, left_of, Parted}
use Rattle.mcbp_frame.specs.Frames.{is_magic, first_frame, frame_len, frame_of, body_len, parts_len, extras_at, key_at, value_at}
use Rattle.mcbp_frame.specs.Spelling.{spelling, Readable}
use Rattle.mcbp_frame.specs.Streams.{AreBytes, IsNoFrame, Cut, Gives}
use Rattle.mcbp_frame.proofs.SixTests.{picked, is_picked, is_empty, is_short, is_long, is_bad, is_missing}
use Rattle.mcbp_frame.proofs.Stable.{stable}
use Rattle.mcbp_frame.proofs.ReadBack.{reads_back}
use Rattle.mcbp_frame.proofs.Cases.{length-spelling, one as given_one}
use Rattle.mcbp_frame.proofs.Cuts.{gives_cut, gives_one}
use Rattle.mcbp_frame.proofs.Cutting.{no_byte, frames-one, frames-none, left-one, left-none}

abbrev spellings : List Frame → List ℕ
spellings frames = concat (map spelling frames)

range_within : (bytes : List ℕ) (from to : ℕ) → length (slice_range bytes from to) ≤ to - from
range_within bytes from to = omega (arith, length-take (to - from) (drop from bytes))

frame_within : (bytes : List ℕ) → parts_len bytes ≤ body_len bytes → frame_len (frame_of bytes) ≤ 24 + body_len bytes
unfolding frame_of
frame_within bytes h =
    omega (arith, range_within bytes 24 (extras_at bytes), range_within bytes (extras_at bytes) (key_at bytes), range_within bytes (key_at bytes) (value_at bytes), range_within bytes (value_at bytes) (24 + body_len bytes))

within_by : (bytes : List ℕ) (f : Frame) (empty known short long bad missing : Bool) → is_bad bytes ≡ bad → is_missing bytes ≡ missing
    → picked empty known short long bad missing (frame_of bytes) ≡ Some (Ok f) → frame_len f ≤ length bytes
within_by bytes f true known short long bad missing tb tm e = cc
within_by bytes f false false short long bad missing tb tm e = cc
within_by bytes f false true true long bad missing tb tm e = cc
within_by bytes f false true false true bad missing tb tm e = cc
within_by bytes f false true false false true missing tb tm e = cc
within_by bytes f false true false false false true tb tm e = cc
within_by bytes f false true false false false false tb tm e =
    let same : frame_of bytes ≡ f = cc in
    let parts : parts_len bytes ≤ body_len bytes = grind (arith, nat_tests) in
    let whole : 24 + body_len bytes ≤ length bytes = grind (arith, nat_tests) in
    omega (arith, ap frame_len same, frame_within bytes parts, whole)

is_first : (case : Option (Result Frame FrameFault)) (f : Frame) → frame_in case ≡ Some f → case ≡ Some (Ok f)
is_first None f e = cc
is_first (Some (Err fault)) f e = cc
is_first (Some (Ok g)) f e = let same : g ≡ f = cc in ap (λ x. Some (Ok x)) same

is_none : (case : Option (Result Frame FrameFault)) → frame_in case ≡ None → IsNoFrame case
is_none None e = tt
is_none (Some (Err fault)) e = tt
is_none (Some (Ok f)) e = cc

-- a frame at the front is no longer than the bytes
pub front_within : (bytes : List ℕ) (f : Frame) → front_frame bytes ≡ Some f → frame_len f ≤ length bytes
front_within bytes f e = within_by bytes f (is_empty bytes) (is_magic (slice_index bytes 0)) (is_short bytes) (is_long bytes) (is_bad bytes) (is_missing bytes) refl refl (sym (is_picked bytes) ∙ is_first (first_frame bytes) f e)

-- it stays there, whatever follows
pub front_stays : (bytes more : List ℕ) (f : Frame) → front_frame bytes ≡ Some f → front_frame (bytes ++ more) ≡ Some f
front_stays bytes more f e = ap frame_in (stable bytes more (Ok f) (is_first (first_frame bytes) f e))

by_turns : (P : List ℕ → Type 0) → ((bytes : List ℕ) → front_frame bytes ≡ None → P bytes)
    → ((bytes : List ℕ) (f : Frame) → front_frame bytes ≡ Some f → P (drop (frame_len f) bytes) → P bytes)
    → (turns : ℕ) (front : Option Frame) (bytes : List ℕ) → length bytes ≤ turns → front_frame bytes ≡ front → P bytes
by_turns P none step turns None bytes h e = none bytes e
by_turns P none step zero (Some f) bytes h e = absurd (no_byte bytes f (omega arith) e)
by_turns P none step (suc turns) (Some f) bytes h e = step bytes f e (by_turns P none step turns _ (drop (frame_len f) bytes) (omega (arith, length-drop (frame_len f) bytes)) refl)

-- what holds without a frame at the front, and of bytes if it holds behind the frame at their front, holds of all bytes
pub frame_by_frame : (P : List ℕ → Type 0) → ((bytes : List ℕ) → front_frame bytes ≡ None → P bytes)
    → ((bytes : List ℕ) (f : Frame) → front_frame bytes ≡ Some f → P (drop (frame_len f) bytes) → P bytes) → (bytes : List ℕ) → P bytes
frame_by_frame P none step bytes = by_turns P none step (length bytes) _ bytes (omega arith) refl

-- the frames and what is left are what a reader gives
pub gives : (bytes : List ℕ) → Gives bytes (frames_in bytes) (left_of bytes)
gives = frame_by_frame
    (λ bytes. Gives bytes (frames_in bytes) (left_of bytes))
    (λ bytes e. subst (λ fs. Gives bytes fs (left_of bytes)) (sym (frames-none bytes e)) (left-none bytes e, is_none (first_frame bytes) e))
    (λ bytes f e later. subst (λ fs. Gives bytes fs (left_of bytes)) (sym (frames-one bytes f e))
    (is_first (first_frame bytes) f e, subst (λ left. Gives (drop (frame_len f) bytes) (frames_in (drop (frame_len f) bytes)) left) (sym (left-one bytes f e)) later))

-- and nothing else is
pub gives_only : (bytes : List ℕ) (frames : List Frame) (rest : List ℕ) → Gives bytes frames rest → (frames ≡ frames_in bytes) × (rest ≡ left_of bytes)
gives_only bytes frames rest g = gives_one bytes frames (frames_in bytes) rest (left_of bytes) g (gives bytes)

pub cuts : (bytes : List ℕ) → AreBytes bytes → Cut bytes (frames_in bytes) (left_of bytes)
cuts bytes h = gives_cut bytes (frames_in bytes) (left_of bytes) h (gives bytes)

-- no frame is left
pub front_left : (bytes : List ℕ) → front_frame (left_of bytes) ≡ None
front_left = frame_by_frame (λ bytes. front_frame (left_of bytes) ≡ None) (λ bytes e. ap front_frame (left-none bytes e) ∙ e) (λ bytes f e later. ap front_frame (left-one bytes f e) ∙ later)

pub frames-left : (bytes : List ℕ) → frames_in (left_of bytes) ≡ []
frames-left bytes = frames-none (left_of bytes) (front_left bytes)

pub left-left : (bytes : List ℕ) → left_of (left_of bytes) ≡ left_of bytes
left-left bytes = left-none (left_of bytes) (front_left bytes)

-- a fault stays, and no frame comes any more
pub is_fault : (case : Option (Result Frame FrameFault)) (fault : FrameFault) → fault_in case ≡ Some fault → case ≡ Some (Err fault)
is_fault None fault e = cc
is_fault (Some (Ok f)) fault e = cc
is_fault (Some (Err other)) fault e = let same : other ≡ fault = cc in ap (λ x. Some (Err x)) same

pub fault_stays : (held more : List ℕ) (fault : FrameFault) → front_fault held ≡ Some fault → (front_fault (held ++ more) ≡ Some fault) × (frames_in (held ++ more) ≡ [])
fault_stays held more fault e =
    let stays = stable held more (Err fault) (is_fault (first_frame held) fault e) in
    (ap fault_in stays, frames-none (held ++ more) (ap frame_in stays))

behind_first : (a b : List ℕ) (f : Frame) → front_frame a ≡ Some f → drop (frame_len f) (a ++ b) ≡ drop (frame_len f) a ++ b
behind_first a b f e = drop-append-le (frame_len f) a b (front_within a f e)

-- the frames of two pieces: those of the first, and those of what it left with the second
pub frames-append : (a b : List ℕ) → frames_in (a ++ b) ≡ frames_in a ++ frames_in (left_of a ++ b)
frames-append a b = frame_by_frame
    (λ x. frames_in (x ++ b) ≡ frames_in x ++ frames_in (left_of x ++ b))
    (λ x e. sym (λ i. frames-none x e i ++ frames_in (left-none x e i ++ b)))
    (λ x f e later. frames-one (x ++ b) f (front_stays x b f e) ∙ ap (λ l. f ∷ frames_in l) (behind_first x b f e) ∙ ap (λ fs. f ∷ fs) later
    ∙ sym (λ i. frames-one x f e i ++ frames_in (left-one x f e i ++ b)))
    a

pub left-append : (a b : List ℕ) → left_of (a ++ b) ≡ left_of (left_of a ++ b)
left-append a b = frame_by_frame
    (λ x. left_of (x ++ b) ≡ left_of (left_of x ++ b))
    (λ x e. sym (λ i. left_of (left-none x e i ++ b)))
    (λ x f e later. left-one (x ++ b) f (front_stays x b f e) ∙ ap left_of (behind_first x b f e) ∙ later ∙ sym (λ i. left_of (left-one x f e i ++ b)))
    a

-- the frames of written frames are these
pub first-spelling : (f : Frame) (rest : List ℕ) → Readable f → front_frame (spelling f ++ rest) ≡ Some f
first-spelling f rest r = ap frame_in (reads_back f rest r)

behind-spelling : (f : Frame) (rest : List ℕ) → drop (frame_len f) (spelling f ++ rest) ≡ rest
behind-spelling f rest = (λ i. drop (sym (length-spelling f) i) (spelling f ++ rest)) ∙ drop-append_seam (spelling f) rest

pub frames-spellings : (frames : List Frame) (rest : List ℕ) → All Readable frames → frames_in (concat (map spelling frames) ++ rest) ≡ frames ++ frames_in rest
frames-spellings [] rest r = refl
frames-spellings (f ∷ frames) rest r =
    let far : spellings (f ∷ frames) ++ rest ≡ spelling f ++ (spellings frames ++ rest) = append_assoc (spelling f) (spellings frames) rest in
    ap frames_in far ∙ frames-one (spelling f ++ (spellings frames ++ rest)) f (first-spelling f (spellings frames ++ rest) (All-head Readable f frames r))
    ∙ ap (λ l. f ∷ frames_in l) (behind-spelling f (spellings frames ++ rest)) ∙ ap (λ fs. f ∷ fs) (frames-spellings frames rest (All-tail Readable f frames r))

pub left-spellings : (frames : List Frame) (rest : List ℕ) → All Readable frames → left_of (concat (map spelling frames) ++ rest) ≡ left_of rest
left-spellings [] rest r = refl
left-spellings (f ∷ frames) rest r =
    let far : spellings (f ∷ frames) ++ rest ≡ spelling f ++ (spellings frames ++ rest) = append_assoc (spelling f) (spellings frames) rest in
    ap left_of far ∙ left-one (spelling f ++ (spellings frames ++ rest)) f (first-spelling f (spellings frames ++ rest) (All-head Readable f frames r))
    ∙ ap left_of (behind-spelling f (spellings frames ++ rest)) ∙ left-spellings frames rest (All-tail Readable f frames r)

nothing_first : first_frame [] ≡ None
nothing_first = given_one [] None (inl refl)

-- what bytes of written frames begin with is a frame of theirs or less than one
first_of_part : (frames : List Frame) (come coming : List ℕ) (case : Option (Result Frame FrameFault)) → All Readable frames → come ++ coming ≡ spellings frames
    → first_frame come ≡ case → frame_in case ≡ None → case ≡ None
first_of_part frames come coming None r h e n = refl
first_of_part frames come coming (Some (Ok f)) r h e n = cc
first_of_part [] come coming (Some (Err fault)) r h e n =
    let bad : first_frame [] ≡ Some (Err fault) = ap first_frame (sym h) ∙ stable come coming (Err fault) e in
    let none = nothing_first in
    cc
first_of_part (f ∷ frames) come coming (Some (Err fault)) r h e n =
    let bad : first_frame (spelling f ++ spellings frames) ≡ Some (Err fault) = ap first_frame (sym h) ∙ stable come coming (Err fault) e in
    let good : first_frame (spelling f ++ spellings frames) ≡ Some (Ok f) = reads_back f (spellings frames) (All-head Readable f frames r) in
    cc

first_whole : (frames : List Frame) (come coming : List ℕ) (f : Frame) → All Readable frames → come ++ coming ≡ spellings frames → front_frame come ≡ Some f
    → (later : List Frame) × (frames ≡ f ∷ later) × All Readable later × (drop (frame_len f) come ++ coming ≡ spellings later)
first_whole [] come coming f r h e =
    let some : front_frame [] ≡ Some f = ap front_frame (sym h) ∙ front_stays come coming f e in
    let none : front_frame [] ≡ None = ap frame_in nothing_first in
    cc
first_whole (g ∷ later) come coming f r h e =
    let some : front_frame (spelling g ++ spellings later) ≡ Some f = ap front_frame (sym h) ∙ front_stays come coming f e in
    let other : front_frame (spelling g ++ spellings later) ≡ Some g = first-spelling g (spellings later) (All-head Readable g later r) in
    let same : g ≡ f = cc in
    let behind : drop (frame_len f) (spelling g ++ spellings later) ≡ spellings later = (λ i. drop (frame_len (sym same i)) (spelling g ++ spellings later)) ∙ behind-spelling g (spellings later) in
    (later, ap (λ x. x ∷ later) same, All-tail Readable g later r, sym (behind_first come coming f e) ∙ ap (drop (frame_len f)) h ∙ behind)

-- a front part of written frames is some of them, and less than a frame of the others
pub parted : (come coming : List ℕ) (frames : List Frame) → All Readable frames → come ++ coming ≡ concat (map spelling frames) → Parted frames come coming
parted come coming = frame_by_frame
    (λ x. (frames : List Frame) → All Readable frames → x ++ coming ≡ spellings frames → Parted frames x coming)
    (λ x e frames r h. record {
      later = frames;
      joined = sym (ap (λ fs. fs ++ frames) (frames-none x e));
      behind = ap (λ l. l ++ coming) (left-none x e) ∙ h;
      waits = ap first_frame (left-none x e) ∙ first_of_part frames x coming (first_frame x) r h refl e;
    })
    (λ x f e next frames r h.
    let first = first_whole frames x coming f r h e in
    let rest = next first.0 first.2 first.3 in
    record {
      later = rest.later;
      joined = first.1 ∙ ap (λ fs. f ∷ fs) rest.joined ∙ ap (λ fs. fs ++ rest.later) (sym (frames-one x f e));
      behind = ap (λ l. l ++ coming) (left-one x f e) ∙ rest.behind;
      waits = ap first_frame (left-one x f e) ∙ rest.waits;
    })
    come

pub pieces_of_frames : (held queue : List ℕ) (frames : List Frame) (n : ℕ) → All Readable frames → held ++ queue ≡ concat (map spelling frames)
    → Parted frames (held ++ take n queue) (drop n queue)
pieces_of_frames held queue frames n r h =
    parted (held ++ take n queue) (drop n queue) frames r (append_assoc held (take n queue) (drop n queue) ∙ ap (λ l. held ++ l) (take-append-drop n queue) ∙ h)
