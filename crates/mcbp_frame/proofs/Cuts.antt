-- a stream as frames
use Rattle.std.proofs.Common.{◌≡◌, ℕ, ◌<◌, ◌≤◌, zero, suc, List, [], ◌∷◌, ◌++◌, length, drop, refl, sym, ◌∙◌, ap, arith, subst, length-drop, append_assoc, inl}
use Rattle.std.specs.Prelude.{Option, Some, None, Result, Ok, Err, map}
use Rattle.std.specs.List.{All, concat}
use Rattle.std.proofs.Math.Seq.{drop-append_seam}
use Rattle.std.proofs.lemmas.List.{append-nil, map-append}
use Rattle.std.proofs.lemmas.List.Folds.{concat-append}
use Rattle.std.proofs.lemmas.List.Elements.{All-nil, All-cons, All-head, All-tail, All-append, All-drop}
use Rattle.mcbp_frame.specs.declared.frame.Frame.{Frame}
use Rattle.mcbp_frame.specs.declared.frame.FrameFault.{FrameFault}
use Rattle.mcbp_frame.specs.Frames.{first_frame, frame_len}
use Rattle.mcbp_frame.specs.Spelling.{spelling, Readable}
use Rattle.mcbp_frame.specs.Streams.{AreBytes, IsNoFrame, Cut, Gives, GivesOf}
use Rattle.mcbp_frame.proofs.ReadBack.{reads_back}
use Rattle.mcbp_frame.proofs.Cases.{front, length-spelling, one as given_one}

abbrev spellings : List Frame → List ℕ
spellings frames = concat (map spelling frames)

pub gives_cut : (held : List ℕ) (frames : List Frame) (rest : List ℕ) → AreBytes held → Gives held frames rest → Cut held frames rest
gives_cut held [] rest h g = record { joined = sym g.0; readable = All-nil Readable; stops = subst (λ l. IsNoFrame (first_frame l)) (sym g.0) g.1 }
gives_cut held (f ∷ frames) rest h g =
    let first = front held f h g.0 in
    let later = gives_cut (drop (frame_len f) held) frames rest (All-drop (λ b. b < 256) (frame_len f) held h) g.1 in
    record {
      joined = first.1 ∙ ap (λ l. spelling f ++ l) later.joined ∙ sym (append_assoc (spelling f) (spellings frames) rest);
      readable = All-cons Readable f frames first.0 later.readable;
      stops = later.stops;
    }

pub cut_is_given : (held : List ℕ) (frames : List Frame) (rest : List ℕ) → Cut held frames rest → Gives held frames rest
cut_is_given held [] rest c = (sym c.joined, subst (λ l. IsNoFrame (first_frame l)) (sym c.joined) c.stops)
cut_is_given held (f ∷ frames) rest c =
    let far : held ≡ spelling f ++ (spellings frames ++ rest) = c.joined ∙ append_assoc (spelling f) (spellings frames) rest in
    let later : drop (frame_len f) held ≡ spellings frames ++ rest = (λ i. drop (sym (length-spelling f) i) (far i)) ∙ drop-append_seam (spelling f) (spellings frames ++ rest) in (
      ap first_frame far ∙ reads_back f (spellings frames ++ rest) (All-head Readable f frames c.readable),
      cut_is_given (drop (frame_len f) held) frames rest (record { joined = later; readable = All-tail Readable f frames c.readable; stops = c.stops }),
    )

no_frame : (held : List ℕ) (f : Frame) → IsNoFrame (first_frame held) → first_frame held ≡ Some (Ok f) → ⊥
no_frame held f n e = subst IsNoFrame e n

pub gives_one : (held : List ℕ) (frames others : List Frame) (rest left : List ℕ) → Gives held frames rest → Gives held others left → (frames ≡ others) × (rest ≡ left)
gives_one held [] [] rest left g h = (refl, g.0 ∙ sym h.0)
gives_one held [] (f ∷ others) rest left g h = absurd (no_frame held f g.1 h.0)
gives_one held (f ∷ frames) [] rest left g h = absurd (no_frame held f h.1 g.0)
gives_one held (f ∷ frames) (k ∷ others) rest left g h =
    let both : Some (Ok f) ≡ Some (Ok k) = sym g.0 ∙ h.0 in
    let same : f ≡ k = cc in
    let later = gives_one (drop (frame_len f) held) frames others rest left g.1 (subst (λ x. Gives (drop (frame_len x) held) others left) (sym same) h.1) in
    ((λ i. same i ∷ later.0 i), later.1)

pub one : (stream : List ℕ) (frames others : List Frame) (rest left : List ℕ) → Cut stream frames rest → Cut stream others left → (frames ≡ others) × (rest ≡ left)
one stream frames others rest left c d = gives_one stream frames others rest left (cut_is_given stream frames rest c) (cut_is_given stream others left d)

-- a cut of what has come goes on in what comes then
pub more : (a b : List ℕ) (frames later : List Frame) (left rest : List ℕ) → Cut a frames left → Cut (left ++ b) later rest → Cut (a ++ b) (frames ++ later) rest
more a b frames later left rest c d = record {
  joined = ap (λ l. l ++ b) c.joined ∙ append_assoc (spellings frames) left b ∙ ap (λ l. spellings frames ++ l) d.joined
      ∙ sym (append_assoc (spellings frames) (spellings later) rest) ∙ ap (λ l. l ++ rest) (sym (concat-append (map spelling frames) (map spelling later)) ∙ ap concat (sym (map-append spelling frames later)));
  readable = All-append Readable frames later c.readable d.readable;
  stops = d.stops;
}

-- each stream has a cut
some_within : (turns : ℕ) (stream : List ℕ) (case : Option (Result Frame FrameFault)) → length stream ≤ turns → first_frame stream ≡ case → (frames : List Frame) × ((rest : List ℕ) × Gives stream frames rest)
some_within turns stream None h e = ([], (stream, (refl, subst IsNoFrame (sym e) tt)))
some_within turns stream (Some (Err fault)) h e = ([], (stream, (refl, subst IsNoFrame (sym e) tt)))
some_within zero stream (Some (Ok f)) h e =
    let none : first_frame stream ≡ None = given_one stream None (inl (omega arith)) in
    cc
some_within (suc turns) stream (Some (Ok f)) h e =
    let later = some_within turns (drop (frame_len f) stream) _ (omega (arith, length-drop (frame_len f) stream)) refl in
    (f ∷ later.0, (later.1.0, (e, later.1.1)))

pub some : (stream : List ℕ) → AreBytes stream → (frames : List Frame) × (rest : List ℕ) × Cut stream frames rest
some stream h =
    let found = some_within (length stream) stream _ (omega arith) refl in
    (found.0, found.1.0, gives_cut stream found.0 found.1.0 h found.1.1)

bytes_left : (a b : List ℕ) → AreBytes (a ++ b) → AreBytes b
bytes_left a b h = subst AreBytes (drop-append_seam a b) (All-drop (λ x. x < 256) (length a) (a ++ b) h)

pub pieces_cut : (pieces : List (List ℕ)) (held : List ℕ) (frames : List Frame) (rest : List ℕ) → AreBytes held → All AreBytes pieces → IsNoFrame (first_frame held)
    → GivesOf held pieces frames rest → Cut (held ++ concat pieces) frames rest
pieces_cut [] held frames rest h hs n g =
    subst (λ fs. Cut (held ++ []) fs rest) (sym g.0) (record { joined = append-nil held ∙ sym g.1; readable = All-nil Readable; stops = subst (λ l. IsNoFrame (first_frame l)) (sym g.1) n })
pieces_cut (piece ∷ pieces) held frames rest h hs n g =
    let here = All-append (λ b. b < 256) held piece h (All-head AreBytes piece pieces hs) in
    let first = gives_cut (held ++ piece) g.0 g.1 here g.3 in
    let later = pieces_cut pieces g.1 g.2 rest (bytes_left (spellings g.0) g.1 (subst AreBytes first.joined here)) (All-tail AreBytes piece pieces hs) first.stops g.4 in
    let all = more (held ++ piece) (concat pieces) g.0 g.2 g.1 rest first later in
    subst (λ l. Cut l frames rest) (append_assoc held piece (concat pieces)) (subst (λ fs. Cut ((held ++ piece) ++ concat pieces) fs rest) (sym g.5) all)

pub any_pieces : (pieces : List (List ℕ)) (frames : List Frame) (rest : List ℕ) → All AreBytes pieces → GivesOf [] pieces frames rest → Cut (concat pieces) frames rest
any_pieces pieces frames rest hs g = pieces_cut pieces [] frames rest (All-nil (λ b. b < 256)) hs (subst IsNoFrame (sym (given_one [] None (inl refl))) tt) g
