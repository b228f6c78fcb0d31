-- the lines that show vBuckets, and what is told of a script that was made, in letters
use Rattle.std.proofs.Common.{◌≡◌, ◌⊎◌, ℕ, Bool, true, false, List, [], ◌∷◌, ◌++◌, Option, Some, None, map, refl, ap, ◌∙◌, inl, inr, append-nil}
use Rattle.std.specs.Prelude.{if◌then◌else◌, is_some}
use Rattle.std.specs.List.{flat_map}
use Rattle.std.specs.Fmt.{digits}
use Rattle.std.specs.FinMap as finite
use Rattle.std.proofs.lemmas.List.Concat.{flat_map-append}
use Rattle.node_world.specs.Nodes.{PlainNode, refusal, if_up}
use Rattle.node_world.specs.Turns.{call_told}
use Rattle.node_world.specs.World.{PlainWorld, group_with, node_outcome, world_step}
use Rattle.script_text.specs.Lines.{ended}
use Rattle.script_text.specs.Transcript.{event_text, place_text, extent_text, group_text, hex_text}
use Rattle.transcript_law.proofs.Words.{AdminCall, VbAnswer, VbCall, VbReply, admin_line, admin_replied, admin_result, call_at, document_line, image_lines, prepare_line}
use Rattle.vb_events.specs.declared.event.Cause.TheVariants as cause
use Rattle.vb_events.specs.declared.event.Event.{Event}
use Rattle.vb_events.specs.declared.event.Event.TheVariants as event
use Rattle.vb_events.specs.declared.event.Group.{Group}
use Rattle.vb_types.specs.Images.{Picture}
use Rattle.vb_types.specs.declared.role.Role.{Role}
use Rattle.dcp_main.specs.Summaries.{shown_line, summary_of}
use Rattle.dcp_main.specs.Showing.{FewTold, ShowsIfThere, ShowsNone, ShowsOne, ThreeTold}

-- other lines of a vBucket that is shown

none_of : {A : Type 0} (f : A → Event) (xs : List A) → ((x : A) → shown_line (f x) ≡ []) → flat_map shown_line (map f xs) ≡ []
none_of f [] none = refl
none_of f (x ∷ xs) none = ap (λ text. text ++ flat_map shown_line (map f xs)) (none x) ∙ none_of f xs none

image_none : (image : Picture) → flat_map shown_line (image_lines image) ≡ []
image_none image =
    let docs = map document_line (finite.entries image.docs) in
    let preps = map prepare_line (finite.entries image.pending) in
    flat_map-append shown_line docs preps
    ∙ ap (λ text. text ++ flat_map shown_line preps) (none_of document_line (finite.entries image.docs) (λ x. refl))
    ∙ none_of prepare_line (finite.entries image.pending) (λ x. refl)

module _ (number n v : ℕ) where
  abbrev Shows : Group → Type 0
  Shows g = ShowsOne n v g ⊎ ShowsNone g

  pub shown_one : (reply : VbReply) (role : Role) (uuid ss se at : ℕ) (image : Picture)
      → ShowsOne n v (group_with number (call_told (admin_replied n v AdminCall.Show (record reply { answer = VbAnswer.Shown role uuid ss se at image }))))
  shown_one reply role uuid ss se at image =
      let line = ended (event_text (event.Shown n v role uuid at ss se _ _)) in
      record {
        role = role;
        uuid = uuid;
        at = at;
        ss = ss;
        se = se;
        docs = _;
        preps = _;
        answer = refl;
        one = ap (λ text. line ++ text) (image_none image) ∙ append-nil line;
      }

  by_answer : (reply : VbReply) (a : VbAnswer) → Shows (group_with number (call_told (admin_replied n v AdminCall.Show (record reply { answer = a }))))
  by_answer reply (VbAnswer.Shown role uuid ss se at image) = inl (shown_one reply role uuid ss se at image)
  by_answer reply other = inr (cause.WrongRole, refl, refl)

  by_reply : (o : Option VbReply) → Shows (group_with number (call_told (admin_result n v AdminCall.Show o)))
  by_reply None = inr (cause.UnknownVb, refl, refl)
  by_reply (Some reply) = by_answer reply reply.answer

  by_power : (off : Bool) (node : PlainNode) → Shows (group_with number (if off then (node, refusal cause.NodeDown) else admin_line n v AdminCall.Show node).1)
  by_power true node = inr (cause.NodeDown, refl, refl)
  by_power false node = by_reply (call_at node.vbs v VbCall.Show (node.vbs v)).1

  by_node : (w : PlainWorld) (o : Option PlainNode) → Shows (group_with number (node_outcome w n (refusal cause.UnknownNode) o (if_up (admin_line n v AdminCall.Show))).1)
  by_node w None = inr (cause.UnknownNode, refl, refl)
  by_node w (Some node) = by_power (is_some node.off) node

pub shows : (w : PlainWorld) (number n v : ℕ) → ShowsIfThere w number n v
unfolding world_step
shows w number n v = by_node number n v w (w.nodes n)

pub three_told : ThreeTold
unfolding summary_of group_text event_text place_text extent_text hex_text digits
three_told = refl

pub few_told : FewTold
unfolding summary_of group_text event_text place_text extent_text hex_text digits
few_told = (refl, refl, refl)
