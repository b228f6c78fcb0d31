-- connections of clients, judged by hand
use Rattle.std.specs.Prelude.{◌≡◌, ◌∷◌, ◌==◌, ◌&&◌, if◌then◌else◌}
use Rattle.transcript_law.proofs.Words.{ℕ, true, false, List, [], refl, arith, and_parts, None, Some, LawfulGroups, Answer, Cause, Event, Chronicle, Verb, NodeVerb, empty_chronicle}
use Rattle.transcript_law.proofs.{rows.CrashRows.{stops}, rows.Groups.{AreParts, in_place, Never, whole}, rows.Sets.{heard_then}, rows.Silent.{AreHeard, Silent, all_silent, heard_all, heard_by, here_answered, silent_heard, silent_start}}
use Rattle.transcript_law.specs.{ClientRows.{LawfulOpened, asks, breaks, closes, hangs, nooped, opens, refused, replies, sends, waits}, Clients.{AllClosed, IsOpened, IsReached}, Chronicles.{after_group, conns_lines}, Prefixes.{known_after}}
use Rattle.transcript_law.specs.Crashes.{LawfulAfter, Said, numbered, ok, save_under, save_under_groups, stopped_behind, groups_from_number}
unfoldable use Rattle.mcbp_dcp.specs.Messages.{read_of}
unfoldable use Rattle.mcbp_dcp.specs.Rows.{frame_row}
unfoldable use Rattle.mcbp_frame.specs.Cutting.{frames_in}
unfoldable use Rattle.mcbp_frame.specs.Frames.{first_frame, frame_of}
unfoldable use Rattle.mcbp_frame.specs.Spelling.{spelling}
unfoldable use Rattle.mcbp_kv.specs.Framing.{requirement_of}
unfoldable use Rattle.mcbp_kv.specs.Requests.{request_of}
use Rattle.mcbp_frame.specs.declared.frame.FrameFault.TheVariants.{BadMagic}
use Rattle.vb_disk.specs.declared.made.Outcome.TheVariants.{Old}
use Rattle.transcript_law.proofs.rows.Answering.{no_question, noop_answer}
use Rattle.transcript_law.proofs.verbs.Handing.{hands_plain}

-- what was read when the connection was opened
abbrev read : Chronicle
read = known_after empty_chronicle (numbered 1 (Verb.Node 0 ∷ opens 1 ∷ [])) (groups_from_number 1 (ok [] ∷ ok [] ∷ []))

-- a transcript is lawful that is so from there on
from_heard : (more : List Verb) (told : List Said) → in_place read (numbered 3 more) (groups_from_number 3 told) ≡ true → AreParts read (numbered 3 more) (groups_from_number 3 told) → (Silent read.clients_at → AreHeard read (numbered 3 more) (groups_from_number 3 told)) → LawfulOpened more told
from_heard more told o l heard =
    whole empty_chronicle (numbered 1 (Verb.Node 0 ∷ opens 1 ∷ more)) (groups_from_number 1 (ok [] ∷ ok [] ∷ told)) o ((tt, tt, refl), ((tt, refl, refl), l)) (heard_then _ _ _ _ _ refl silent_start (λ s. heard_then _ _ _ _ _ refl s heard)) (Never (λ l. refl))

-- where no client sends anything, none is left without an answer
from_opened : (more : List Verb) (told : List Said) → (in_place read (numbered 3 more) (groups_from_number 3 told) && all_silent (numbered 3 more)) ≡ true → AreParts read (numbered 3 more) (groups_from_number 3 told) → LawfulOpened more told
from_opened more told o l =
    let both = and_parts (in_place read (numbered 3 more) (groups_from_number 3 told)) (all_silent (numbered 3 more)) o in
    from_heard more told both.0 l (λ s. silent_heard read (numbered 3 more) (groups_from_number 3 told) s both.1)

-- it is one thing or the other
not_both : {A : Type 0} → false ≡ true → A
not_both e = cc

not_other : {A : Type 0} → true ≡ false → A
not_other e = cc

-- ---- lines

-- the lines in front, as they are where none sends anything
in_front : LawfulOpened (sends 1 ∷ []) (ok [] ∷ [])
in_front = from_opened (sends 1 ∷ []) (ok [] ∷ []) refl ((tt, refl, refl), tt)

-- the group in which the connection closes
breaks_off : LawfulGroups read (numbered 3 (breaks 1 ∷ [])) (groups_from_number 3 (ok (closes 0 1 ∷ []) ∷ []))
unfolding spelling frames_in first_frame frame_of
breaks_off = ((((refl, λ opened. refl), tt), refl, refl, refl, λ w no standing. cc, hands_plain _ _ _ _ refl refl, tt, tt, here_answered read (breaks 1) (closes 0 1 ∷ []) Answer.Ok (λ n c e. rw e refl) refl refl, tt, λ e. record { fault = BadMagic; stands = refl; front = []; last = refl }, (tt, tt)), tt)

pub closed : LawfulOpened (breaks 1 ∷ []) (ok (closes 0 1 ∷ []) ∷ [])
closed = (in_front.0, (in_front.1.0, breaks_off))

pub closed_other : LawfulOpened (breaks 1 ∷ []) (ok (closes 0 2 ∷ []) ∷ []) → ⊥
closed_other l = not_both l.1.1.0.0.0.0

pub closed_elsewhere : LawfulOpened (breaks 1 ∷ []) (ok (closes 1 1 ∷ []) ∷ []) → ⊥
closed_elsewhere l = not_both l.1.1.0.0.0.0

pub closed_twice : LawfulOpened (breaks 1 ∷ []) (ok (closes 0 1 ∷ closes 0 1 ∷ []) ∷ []) → ⊥
closed_twice l = not_both l.1.1.0.0.1.0.0

pub closed_later : LawfulOpened (sends 1 ∷ waits ∷ []) (ok [] ∷ ok (closes 0 1 ∷ []) ∷ []) → ⊥
unfolding frames_in first_frame
closed_later l = let b = l.1.1.1.0.10.0 in let e : None ≡ Some b.fault = b.stands in cc

pub closed_again : LawfulOpened (breaks 1 ∷ waits ∷ []) (ok (closes 0 1 ∷ []) ∷ ok (closes 0 1 ∷ []) ∷ []) → ⊥
closed_again l = not_both l.1.1.1.0.0.0.0

pub closed_hung : LawfulOpened (hangs 1 ∷ waits ∷ []) (ok [] ∷ ok (closes 0 1 ∷ []) ∷ []) → ⊥
closed_hung l = not_both l.1.1.1.0.0.0.0

pub hung_then : LawfulOpened (hangs 1 ∷ waits ∷ []) (ok [] ∷ ok [] ∷ [])
hung_then = from_opened (hangs 1 ∷ waits ∷ []) (ok [] ∷ ok [] ∷ []) refl ((tt, refl, refl), ((tt, tt, refl), tt))

pub reply : LawfulOpened (asks 1 ∷ []) (ok (replies 0 1 (nooped 9) ∷ []) ∷ [])
unfolding spelling frames_in first_frame frame_of read_of frame_row request_of requirement_of
reply = from_heard (asks 1 ∷ []) (ok (replies 0 1 (nooped 9) ∷ []) ∷ []) refl ((((refl, λ z. noop_answer 9 refl refl refl refl (tt, refl)), tt), refl, refl), tt)
    (λ s. heard_by _ _ _ _ _ (here_answered read (asks 1) (replies 0 1 (nooped 9) ∷ []) Answer.Ok (λ n c e. rw e refl) refl refl) (heard_all _))

pub reply_later : LawfulOpened (asks 1 ∷ waits ∷ []) (ok [] ∷ ok (replies 0 1 (nooped 9) ∷ []) ∷ []) → ⊥
unfolding spelling frames_in first_frame frame_of read_of frame_row request_of requirement_of
reply_later l = let a = (l.1.1.0.8 0 1 refl).asks _ refl in let e = a.asks in cc

module _ (bytes : List ℕ) where
  pub reply_unasked : LawfulOpened (sends 1 ∷ []) (ok (replies 0 1 bytes ∷ []) ∷ []) → ⊥
  unfolding frames_in first_frame
  reply_unasked l = no_question (l.1.1.0.0.0.1 refl) refl refl

  pub reply_other : LawfulOpened (asks 1 ∷ []) (ok (replies 0 2 bytes ∷ []) ∷ []) → ⊥
  reply_other l = not_both l.1.1.0.0.0.0

  pub reply_elsewhere : LawfulOpened (asks 1 ∷ []) (ok (replies 1 1 bytes ∷ []) ∷ []) → ⊥
  reply_elsewhere l = not_both l.1.1.0.0.0.0

  pub reply_behind : LawfulOpened (asks 1 ∷ []) (ok (closes 0 1 ∷ replies 0 1 bytes ∷ []) ∷ []) → ⊥
  reply_behind l = not_both l.1.1.0.0.1.0.0

  pub reply_closed : LawfulOpened (asks 1 ∷ waits ∷ []) (ok (closes 0 1 ∷ []) ∷ ok (replies 0 1 bytes ∷ []) ∷ []) → ⊥
  reply_closed l = not_both l.1.1.1.0.0.0.0

  pub reply_hung : LawfulOpened (asks 1 ∷ hangs 1 ∷ waits ∷ []) (ok [] ∷ ok [] ∷ ok (replies 0 1 bytes ∷ []) ∷ []) → ⊥
  reply_hung l = not_both l.1.1.1.1.0.0.0.0

  pub reply_down : LawfulOpened (asks 1 ∷ Verb.AtNode 0 (NodeVerb.Crash Old) ∷ Verb.AtNode 0 (NodeVerb.Fail 1) ∷ []) (ok [] ∷ ok (closes 0 1 ∷ []) ∷ ok (replies 0 1 bytes ∷ []) ∷ []) → ⊥
  reply_down l = not_both l.1.1.1.1.0.0.0.0

-- ---- answers

open_only : (said : Answer) → (said ≡ Answer.No Cause.LinkOpen → ⊥) → IsOpened true said → ⊥
open_only Answer.Ok other i = not_other i
open_only (Answer.Number n) other i = i
open_only (Answer.Pulled n why) other i = i
open_only (Answer.No Cause.LinkOpen) other i = other refl
open_only (Answer.No Cause.UnknownNode) other i = not_other i
open_only (Answer.No Cause.NodeDown) other i = not_other i
open_only (Answer.No why) other i = i

reached_only : (said : Answer) → (said ≡ Answer.Ok → ⊥) → IsReached true said → ⊥
reached_only Answer.Ok other i = other refl
reached_only (Answer.Number n) other i = i
reached_only (Answer.Pulled n why) other i = i
reached_only (Answer.No Cause.LinkClosed) other i = not_other i
reached_only (Answer.No Cause.UnknownNode) other i = not_other i
reached_only (Answer.No Cause.NodeDown) other i = not_other i
reached_only (Answer.No why) other i = i

pub opened_again : LawfulOpened (opens 1 ∷ []) (refused Cause.LinkOpen ∷ [])
opened_again = from_opened (opens 1 ∷ []) (refused Cause.LinkOpen ∷ []) refl ((tt, refl, refl), tt)

pub opened_twice : (said : Said) → (said.1 ≡ Answer.No Cause.LinkOpen → ⊥) → LawfulOpened (opens 1 ∷ []) (said ∷ []) → ⊥
opened_twice said other l = open_only said.1 other l.1.1.0.1

pub opened_other : LawfulOpened (opens 2 ∷ []) (ok [] ∷ [])
opened_other = from_opened (opens 2 ∷ []) (ok [] ∷ []) refl ((tt, refl, refl), tt)

pub other_taken : LawfulOpened (opens 2 ∷ []) (refused Cause.LinkOpen ∷ []) → ⊥
other_taken l = not_both l.1.1.0.1

pub other_limit : LawfulOpened (opens 2 ∷ []) (refused Cause.Limit ∷ []) → ⊥
other_limit l = l.1.1.0.1

pub sent : LawfulOpened (sends 1 ∷ []) (ok [] ∷ [])
sent = from_opened (sends 1 ∷ []) (ok [] ∷ []) refl ((tt, refl, refl), tt)

pub sent_refused : (said : Said) → (said.1 ≡ Answer.Ok → ⊥) → LawfulOpened (sends 1 ∷ []) (said ∷ []) → ⊥
sent_refused said other l = reached_only said.1 other l.1.1.0.1

pub sent_other : LawfulOpened (sends 2 ∷ []) (ok [] ∷ []) → ⊥
sent_other l = not_both l.1.1.0.1

pub other_closed : LawfulOpened (sends 2 ∷ []) (refused Cause.LinkClosed ∷ [])
other_closed = from_opened (sends 2 ∷ []) (refused Cause.LinkClosed ∷ []) refl ((tt, refl, refl), tt)

pub other_refused : LawfulOpened (sends 2 ∷ []) (refused Cause.Limit ∷ []) → ⊥
other_refused l = l.1.1.0.1

pub hung : LawfulOpened (hangs 1 ∷ []) (ok [] ∷ [])
hung = from_opened (hangs 1 ∷ []) (ok [] ∷ []) refl ((tt, refl, refl), tt)

pub hung_refused : (said : Said) → (said.1 ≡ Answer.Ok → ⊥) → LawfulOpened (hangs 1 ∷ []) (said ∷ []) → ⊥
hung_refused said other l = reached_only said.1 other l.1.1.0.1

pub hung_other : LawfulOpened (hangs 2 ∷ []) (ok [] ∷ []) → ⊥
hung_other l = not_both l.1.1.0.1

pub hung_twice : LawfulOpened (hangs 1 ∷ hangs 1 ∷ []) (ok [] ∷ ok [] ∷ []) → ⊥
hung_twice l = not_both l.1.1.1.0.1

pub hung_closed : LawfulOpened (hangs 1 ∷ hangs 1 ∷ []) (ok [] ∷ refused Cause.LinkClosed ∷ [])
hung_closed = from_opened (hangs 1 ∷ hangs 1 ∷ []) (ok [] ∷ refused Cause.LinkClosed ∷ []) refl ((tt, refl, refl), ((tt, refl, refl), tt))

pub sent_hung : LawfulOpened (hangs 1 ∷ sends 1 ∷ []) (ok [] ∷ ok [] ∷ []) → ⊥
sent_hung l = not_both l.1.1.1.0.1

pub sent_anew : LawfulOpened (hangs 1 ∷ opens 1 ∷ sends 1 ∷ []) (ok [] ∷ ok [] ∷ ok [] ∷ [])
sent_anew = from_opened (hangs 1 ∷ opens 1 ∷ sends 1 ∷ []) (ok [] ∷ ok [] ∷ ok [] ∷ []) refl ((tt, refl, refl), ((tt, refl, refl), ((tt, refl, refl), tt)))

pub sent_closed : LawfulOpened (breaks 1 ∷ sends 1 ∷ []) (ok (closes 0 1 ∷ []) ∷ ok [] ∷ []) → ⊥
sent_closed l = not_both l.1.1.1.0.1

pub closed_anew : LawfulOpened (breaks 1 ∷ opens 1 ∷ []) (ok (closes 0 1 ∷ []) ∷ ok [] ∷ [])
unfolding spelling frames_in first_frame frame_of
closed_anew = (in_front.0, (in_front.1.0, (breaks_off.0, ((tt, refl, refl, refl, λ w no standing. cc, hands_plain _ _ _ _ refl refl, tt, tt, here_answered (after_group read (breaks 1) (closes 0 1 ∷ []) Answer.Ok) (opens 1) [] Answer.Ok (λ n c e. rw e refl) refl refl, tt, tt, (tt, tt)), tt))))

-- ---- nodes that stop

none_left : AllClosed (conns_lines read.conn_at (closes 0 1 ∷ [])) 0
none_left c = elim (c == 1) as (λ b. (if b then false else (if b then true else false)) ≡ false) [ true ↦ refl | false ↦ refl ]

pub crashed : LawfulOpened (Verb.AtNode 0 (NodeVerb.Crash Old) ∷ []) (ok (closes 0 1 ∷ []) ∷ [])
crashed = from_opened (Verb.AtNode 0 (NodeVerb.Crash Old) ∷ []) (ok (closes 0 1 ∷ []) ∷ []) refl ((((refl, not_both), tt), none_left, refl), tt)

pub untold : LawfulOpened (Verb.AtNode 0 (NodeVerb.Crash Old) ∷ []) (ok [] ∷ []) → ⊥
untold l = not_other (l.1.1.0.1 1)

pub other : LawfulOpened (Verb.AtNode 0 (NodeVerb.Crash Old) ∷ []) (ok (closes 0 1 ∷ closes 0 2 ∷ []) ∷ []) → ⊥
other l = not_both l.1.1.0.0.1.0.0

pub armed : LawfulOpened (Verb.AtNode 0 (NodeVerb.Crash Old) ∷ Verb.AtNode 0 (NodeVerb.Fail 1) ∷ []) (ok (closes 0 1 ∷ []) ∷ ok [] ∷ [])
armed = from_opened (Verb.AtNode 0 (NodeVerb.Crash Old) ∷ Verb.AtNode 0 (NodeVerb.Fail 1) ∷ []) (ok (closes 0 1 ∷ []) ∷ ok [] ∷ []) refl ((((refl, not_both), tt), none_left, refl), ((tt, tt, refl), tt))

pub again : LawfulOpened (Verb.AtNode 0 (NodeVerb.Crash Old) ∷ Verb.AtNode 0 (NodeVerb.Fail 1) ∷ []) (ok (closes 0 1 ∷ []) ∷ ok (closes 0 1 ∷ []) ∷ []) → ⊥
again l = not_both l.1.1.1.0.0.0.0

pub stopped : LawfulAfter (save_under (Verb.AtNode 0 (NodeVerb.Stop 1 Old))) (save_under_groups (stopped_behind []))
stopped = stops 1 (omega arith) (omega arith)

pub stopped_untold : LawfulAfter (save_under (Verb.AtNode 0 (NodeVerb.Stop 1 Old))) (save_under_groups (Event.NodeStopped 0 ∷ [], Answer.No Cause.Stopped)) → ⊥
stopped_untold l = not_other (l.1.1.1.1.1.1.0.0.0.1 1)

pub stopped_before : LawfulAfter (save_under (Verb.AtNode 0 (NodeVerb.Stop 1 Old))) (save_under_groups (closes 0 1 ∷ Event.NodeStopped 0 ∷ closes 0 1 ∷ [], Answer.No Cause.Stopped)) → ⊥
stopped_before l = not_both l.1.1.1.1.1.1.0.0.1.1.0.0
