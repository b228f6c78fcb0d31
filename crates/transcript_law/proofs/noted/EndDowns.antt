-- the line `down`: no end of a stream comes to be on its way
use Rattle.std.specs.Prelude.{◌≡◌, ◌∷◌, ◌++◌}
use Rattle.std.proofs.lemmas.List.{take-append-drop}
use Rattle.mcbp_frame.proofs.Pieces.{frames-append}
use Rattle.transcript_law.proofs.Words.{ℕ, List, [], ap, sym, ◌∙◌, subst, inr, append_assoc, after_job, dial_bytes, drop, take, DialResult, Frame, PlainLink, States, frames_in, left_of}
use Rattle.node_world.specs.Links.{dial_of, with_down}
use Rattle.transcript_law.proofs.balance.{Hearing.{heard_left}, Levels.{Has}, Writing.{delivered}}
use Rattle.transcript_law.proofs.noted.Ending.{EndsRemain, coming_down, end_of}
use Rattle.vb_calls.specs.Shelves.{Shelves}

-- frames behind others are among all of them
has_behind : (f : Frame) (xs ys : List Frame) → Has f ys → Has f (xs ++ ys)
has_behind f [] ys has = has
has_behind f (x ∷ xs) ys has = inr (has_behind f xs ys has)

-- what is left of those that were on their way
pub down_ends : (link : PlainLink) (n : ℕ) (states : States) (shelves : Shelves) → (let told : DialResult = (after_job (dial_bytes (take n link.down) (dial_of link)) states shelves).1 in EndsRemain link (with_down link n told))
down_ends link n states shelves =
    let piece : List ℕ = take n link.down in
    let told : DialResult = (after_job (dial_bytes piece (dial_of link)) states shelves).1 in
    let left : List ℕ = left_of (link.down_heard ++ piece) in
    let joined : link.down_heard ++ link.down ≡ (link.down_heard ++ piece) ++ drop n link.down
    = ap (λ b. link.down_heard ++ b) (sym (take-append-drop n link.down)) ∙ sym (append_assoc link.down_heard piece (drop n link.down)) in
    let parts : coming_down link ≡ frames_in (link.down_heard ++ piece) ++ frames_in (left ++ drop n link.down) = ap frames_in joined ∙ frames-append (link.down_heard ++ piece) (drop n link.down) in
    record {
      dialed = (delivered piece (dial_of link) states shelves).dialed;
      coming = λ b o v has. subst (Has (end_of o v b)) (sym parts) (has_behind (end_of o v b) (frames_in (link.down_heard ++ piece)) (frames_in (left ++ drop n link.down)) (subst (λ h. Has (end_of o v b) (frames_in (h ++ drop n link.down))) (heard_left piece (dial_of link) states shelves) has));
    }
