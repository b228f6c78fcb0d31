-- clients that are answered, and clients that are left without an answer, judged by hand
use Rattle.std.specs.Prelude.{◌≡◌, ◌∷◌, ◌++◌, ◌==◌, ◌&&◌}
use Rattle.transcript_law.proofs.Words.{ℕ, true, false, List, [], refl, sym, subst, inl, inr, ◌∙◌, take, drop, Some, None, Chronicle, Event, Frame, Verb, empty_chronicle}
unfoldable use Rattle.mcbp_dcp.specs.Messages.{read_of}
unfoldable use Rattle.mcbp_dcp.specs.Rows.{frame_row}
unfoldable use Rattle.mcbp_frame.specs.Cutting.{frames_in}
unfoldable use Rattle.mcbp_frame.specs.Frames.{first_frame, frame_of}
unfoldable use Rattle.mcbp_frame.specs.Spelling.{spelling}
unfoldable use Rattle.mcbp_kv.specs.Framing.{requirement_of}
unfoldable use Rattle.mcbp_kv.specs.Requests.{request_of}
use Rattle.client_session.specs.Serving.{no_settings}
use Rattle.mcbp_kv.specs.Answers.{bare_answer}
use Rattle.mcbp_kv.specs.Replies.{reply_frame}
use Rattle.mcbp_kv.specs.declared.opcodes.TheConstants.{NOOP, SET}
use Rattle.vb_types.specs.declared.role.Role.TheVariants.{Active}
use Rattle.vb_types.specs.declared.status.Status.TheVariants as status
use Rattle.script_text.specs.declared.verb.ClientVerb.TheVariants as client_verb
use Rattle.script_text.specs.declared.verb.Verb.TheVariants as verb
use Rattle.transcript_law.proofs.rows.{AnswerRefusals.{why_away}, Answering.{bare_so, first_number}, Groups.{AreParts, in_place, Never, whole as whole_groups}, Sets.{heard_then}, Silent.{AreHeard, heard_all, heard_by, none_next, one_answered, shut_answered, silent_start}}
use Rattle.transcript_law.specs.AnsweredRows.{brings, broken_bytes, durable_bytes, durable_frame, durable_refused, noop_answered, noop_bytes, noop_frame, response_bytes, sent_alone, sent_shut, set_bytes}
use Rattle.transcript_law.specs.{ClientRows.{LawfulOpened, hangs, waits}, Crashes.{Said, groups_from_number, numbered, ok}, LawfulAnswers.{serving, FitsFrame, LawfulReply, IsStill}, Prefixes.{known_after}}
use Rattle.transcript_law.specs.Questions.{Question, question_of}
use Rattle.transcript_law.specs.StreamsTold.{Asking}
use Rattle.transcript_law.specs.Transcripts.{set_frame}
use Rattle.transcript_law.specs.Unanswered.{AllAnswered, AsksDurably, NoneAsks, NoneWaits}
use Rattle.transcript_law.specs.LawfulMessages.{moment_of}
use Rattle.mcbp_frame.specs.Cutting.{front_fault}
use Rattle.transcript_law.specs.Questions.{behind_frames}

-- ---- what may wait

-- NOOP may not, nor may a set that is not to be durable
no_noop : AsksDurably no_settings noop_frame → ⊥
unfolding request_of requirement_of
no_noop a = let e = a.asks in cc

no_set : AsksDurably no_settings (set_frame (7 ∷ []) (8 ∷ [])) → ⊥
unfolding request_of requirement_of
no_set a = let e = a.asks in cc

may_wait : AsksDurably no_settings durable_frame
unfolding request_of requirement_of
may_wait = record { own = refl; write = _; wish = _; asks = refl }

-- it is asked next
durable_next : (k : Asking) (before : List Frame) → question_of k ≡ Some (record { before = before; frame = durable_frame }) → k.settings ≡ no_settings → NoneWaits k
durable_next k before next same = record { asks = asks; whole = λ none. let z : None ≡ Some (record { before = before; frame = durable_frame }) = sym none ∙ next in cc }
  where
    asks : NoneAsks k
    asks q is =
        let both : Some (record { before = before; frame = durable_frame }) ≡ Some q = sym next ∙ is in
        let one : record { before = before; frame = durable_frame } ≡ q = cc in
        subst (λ s. AsksDurably s q.frame) (sym same) (subst (λ (p : Question). AsksDurably no_settings p.frame) one may_wait)

-- ---- by what was sent

-- of the other connections nothing came
alone : (bytes : List ℕ) → NoneWaits ((sent_alone bytes).clients_at 0 1).asking → AllAnswered (sent_alone bytes)
alone bytes here = one_answered (sent_alone bytes) (λ n c e. rw e refl) here

alone_none : (bytes : List ℕ) → question_of ((sent_alone bytes).clients_at 0 1).asking ≡ None → front_fault (behind_frames bytes) ≡ None → AllAnswered (sent_alone bytes)
alone_none bytes none whole = alone bytes (none_next ((sent_alone bytes).clients_at 0 1).asking none whole)

alone_durable : (bytes : List ℕ) → question_of ((sent_alone bytes).clients_at 0 1).asking ≡ Some (record { before = []; frame = durable_frame }) → AllAnswered (sent_alone bytes)
alone_durable bytes next = alone bytes (durable_next ((sent_alone bytes).clients_at 0 1).asking [] next refl)

pub none : AllAnswered (sent_alone [])
unfolding frames_in first_frame
none = alone_none [] refl refl

pub part : AllAnswered (sent_alone (take 23 noop_bytes))
unfolding spelling frames_in first_frame frame_of
part = alone_none (take 23 noop_bytes) refl refl

pub whole : AllAnswered (sent_alone noop_bytes) → ⊥
unfolding spelling frames_in first_frame frame_of read_of frame_row
whole l = no_noop ((l 0 1 refl).asks (record { before = []; frame = noop_frame }) refl)

pub shut : AllAnswered (sent_shut noop_bytes)
shut = shut_answered (sent_shut noop_bytes) (λ n c. refl)

pub response : AllAnswered (sent_alone response_bytes)
unfolding spelling frames_in first_frame frame_of read_of frame_row
response = alone_none response_bytes refl refl

pub behind_response : AllAnswered (sent_alone (response_bytes ++ noop_bytes)) → ⊥
unfolding spelling frames_in first_frame frame_of read_of frame_row
behind_response l = no_noop ((l 0 1 refl).asks (record { before = _; frame = noop_frame }) refl)

pub set : AllAnswered (sent_alone set_bytes) → ⊥
unfolding spelling frames_in first_frame frame_of read_of frame_row
set l = no_set ((l 0 1 refl).asks (record { before = []; frame = set_frame (7 ∷ []) (8 ∷ []) }) refl)

pub durable : AllAnswered (sent_alone durable_bytes)
unfolding spelling frames_in first_frame frame_of read_of frame_row
durable = alone_durable durable_bytes refl

pub behind_durable : AllAnswered (sent_alone (durable_bytes ++ noop_bytes))
unfolding spelling frames_in first_frame frame_of read_of frame_row
behind_durable = alone_durable (durable_bytes ++ noop_bytes) refl

pub broken : AllAnswered (sent_alone broken_bytes) → ⊥
unfolding frames_in first_frame
broken l = let e = (l 0 1 refl).whole refl in cc

pub broken_behind : AllAnswered (sent_alone (response_bytes ++ broken_bytes)) → ⊥
unfolding spelling frames_in first_frame frame_of read_of frame_row
broken_behind l = let e = (l 0 1 refl).whole refl in cc

pub broken_waits : AllAnswered (sent_alone (durable_bytes ++ broken_bytes))
unfolding spelling frames_in first_frame frame_of read_of frame_row
broken_waits = alone_durable (durable_bytes ++ broken_bytes) refl

pub before_durable : AllAnswered (sent_alone (noop_bytes ++ durable_bytes)) → ⊥
unfolding spelling frames_in first_frame frame_of read_of frame_row
before_durable l = no_noop ((l 0 1 refl).asks (record { before = []; frame = noop_frame }) refl)

-- ---- by whole lines

-- a vBucket that was not made is not active
pub no_vb : Some None ≡ Some (Some Active) → ⊥
no_vb e = let one : None ≡ Some Active = cc in cc

-- what was read behind these lines of an open connection
abbrev behind : List Verb → List Said → Chronicle
behind lines told = known_after empty_chronicle (numbered 1 (verb.Node 0 ∷ verb.AtClient 0 1 client_verb.Open ∷ lines)) (groups_from_number 1 (ok [] ∷ ok [] ∷ told))

-- the client is not left without an answer there
no_more : (lines : List Verb) (told : List Said) → ((n c : ℕ) → (n == 0 && c == 1) ≡ false → ((behind lines told).clients_at n c).asking.bytes ≡ []) → question_of ((behind lines told).clients_at 0 1).asking ≡ None → front_fault (behind_frames ((behind lines told).clients_at 0 1).asking.bytes) ≡ None → AllAnswered (behind lines told)
no_more lines told others none whole = one_answered (behind lines told) others (none_next ((behind lines told).clients_at 0 1).asking none whole)

-- these lines are lawful where those that tell of the connection are
from_opened : (lines : List Verb) (told : List Said) → in_place empty_chronicle (numbered 1 (verb.Node 0 ∷ verb.AtClient 0 1 client_verb.Open ∷ lines)) (groups_from_number 1 (ok [] ∷ ok [] ∷ told)) ≡ true
    → AreParts (behind [] []) (numbered 3 lines) (groups_from_number 3 told) → AreHeard (behind [] []) (numbered 3 lines) (groups_from_number 3 told) → LawfulOpened lines told
from_opened lines told o parts heard =
    whole_groups empty_chronicle (numbered 1 (verb.Node 0 ∷ verb.AtClient 0 1 client_verb.Open ∷ lines)) (groups_from_number 1 (ok [] ∷ ok [] ∷ told)) o ((tt, tt, refl), ((tt, refl, refl), parts))
    (heard_then _ _ _ _ _ refl silent_start (λ s. heard_then _ _ _ _ _ refl s (λ s. heard))) (Never (λ l. refl))

-- NOOP is answered so
noop_lawful : (r : Chronicle) (k : Asking) (more : List Event) → question_of k ≡ Some (record { before = []; frame = noop_frame }) → k.settings ≡ no_settings → IsStill r → LawfulReply r 0 1 k (spelling (reply_frame (bare_answer NOOP status.Success 9))) more
unfolding request_of requirement_of
noop_lawful r k more next same calm = inl (record {
  question = record { before = []; frame = noop_frame };
  next = next;
  answer = reply_frame (bare_answer NOOP status.Success 9);
  spelled = refl;
  response = refl;
  opcode = refl;
  opaque = refl;
  fits = subst (λ s. FitsFrame (serving r 0 1 k) r 0 (moment_of (r.clients_at 0 1) k (record { before = []; frame = noop_frame })) s noop_frame (reply_frame (bare_answer NOOP status.Success 9))) (sym same) (record { header = record { magic = refl; opcode = refl; key = refl; datatype = refl; status = refl; opaque = refl; framing = refl }; cas = refl; extras = refl; value = refl });
  calm = inr (inr calm);
})

pub answered : LawfulOpened (brings noop_bytes ∷ []) (ok (noop_answered ∷ []) ∷ [])
unfolding spelling frames_in first_frame frame_of read_of frame_row
answered = from_opened (brings noop_bytes ∷ []) (ok (noop_answered ∷ []) ∷ []) refl ((((refl, λ z. noop_lawful _ _ _ refl refl (tt, refl)), tt), refl, refl), tt)
    (heard_by _ _ _ _ _ (no_more (brings noop_bytes ∷ []) (ok (noop_answered ∷ []) ∷ []) (λ n c e. rw e refl) refl refl) (heard_all _))

pub unanswered : LawfulOpened (brings noop_bytes ∷ []) (ok [] ∷ []) → ⊥
unfolding spelling frames_in first_frame frame_of read_of frame_row
unanswered l = no_noop ((l.1.1.0.8 0 1 refl).asks (record { before = []; frame = noop_frame }) refl)

pub later : LawfulOpened (brings noop_bytes ∷ waits ∷ []) (ok [] ∷ ok (noop_answered ∷ []) ∷ []) → ⊥
unfolding spelling frames_in first_frame frame_of read_of frame_row
later l = no_noop ((l.1.1.0.8 0 1 refl).asks (record { before = []; frame = noop_frame }) refl)

pub each : LawfulOpened (brings (noop_bytes ++ noop_bytes) ∷ []) (ok (noop_answered ∷ noop_answered ∷ []) ∷ [])
unfolding spelling frames_in first_frame frame_of read_of frame_row request_of requirement_of
each = from_opened (brings (noop_bytes ++ noop_bytes) ∷ []) (ok (noop_answered ∷ noop_answered ∷ []) ∷ []) refl ((((refl, λ z. noop_lawful _ _ _ refl refl (tt, refl)), ((refl, λ z. noop_lawful _ _ _ refl refl (tt, refl)), tt)), refl, refl), tt)
    (heard_by _ _ _ _ _ (no_more (brings (noop_bytes ++ noop_bytes) ∷ []) (ok (noop_answered ∷ noop_answered ∷ []) ∷ []) (λ n c e. rw e refl) refl refl) (heard_all _))

pub one_only : LawfulOpened (brings (noop_bytes ++ noop_bytes) ∷ []) (ok (noop_answered ∷ []) ∷ []) → ⊥
unfolding spelling frames_in first_frame frame_of read_of frame_row request_of requirement_of
one_only l = no_noop ((l.1.1.0.8 0 1 refl).asks (record { before = []; frame = noop_frame }) refl)

pub pieces : LawfulOpened (brings (take 23 noop_bytes) ∷ brings (drop 23 noop_bytes) ∷ []) (ok [] ∷ ok (noop_answered ∷ []) ∷ [])
unfolding spelling frames_in first_frame frame_of read_of frame_row
pieces = from_opened (brings (take 23 noop_bytes) ∷ brings (drop 23 noop_bytes) ∷ []) (ok [] ∷ ok (noop_answered ∷ []) ∷ []) refl ((tt, refl, refl), ((((refl, λ z. noop_lawful _ _ _ refl refl (tt, refl)), tt), refl, refl), tt))
    (heard_by _ _ _ _ _ (no_more (brings (take 23 noop_bytes) ∷ []) (ok [] ∷ []) (λ n c e. rw e refl) refl refl)
    (heard_by _ _ _ _ _ (no_more (brings (take 23 noop_bytes) ∷ brings (drop 23 noop_bytes) ∷ []) (ok [] ∷ ok (noop_answered ∷ []) ∷ []) (λ n c e. rw e refl) refl refl) (heard_all _)))

pub pieces_unanswered : LawfulOpened (brings (take 23 noop_bytes) ∷ brings (drop 23 noop_bytes) ∷ []) (ok [] ∷ ok [] ∷ []) → ⊥
unfolding spelling frames_in first_frame frame_of read_of frame_row
pieces_unanswered l = no_noop ((l.1.1.1.0.8 0 1 refl).asks (record { before = []; frame = noop_frame }) refl)

pub hung : LawfulOpened (brings (take 23 noop_bytes) ∷ hangs 1 ∷ []) (ok [] ∷ ok [] ∷ [])
unfolding spelling frames_in first_frame frame_of read_of frame_row
hung = from_opened (brings (take 23 noop_bytes) ∷ hangs 1 ∷ []) (ok [] ∷ ok [] ∷ []) refl ((tt, refl, refl), ((tt, refl, refl), tt))
    (heard_by _ _ _ _ _ (no_more (brings (take 23 noop_bytes) ∷ []) (ok [] ∷ []) (λ n c e. rw e refl) refl refl)
    (heard_by _ _ _ _ _ (no_more (brings (take 23 noop_bytes) ∷ hangs 1 ∷ []) (ok [] ∷ ok [] ∷ []) (λ n c e. rw e refl) refl refl) (heard_all _)))

pub durable_later : LawfulOpened (brings durable_bytes ∷ waits ∷ []) (ok [] ∷ ok (durable_refused ∷ []) ∷ [])
unfolding spelling frames_in first_frame frame_of read_of frame_row request_of requirement_of
durable_later = from_opened (brings durable_bytes ∷ waits ∷ []) (ok [] ∷ ok (durable_refused ∷ []) ∷ []) refl (
  (tt, refl, refl),
  (
    (
      (
        (
          refl,
          λ z. inl (record {
            question = record { before = []; frame = durable_frame };
            next = refl;
            answer = reply_frame (bare_answer SET status.NotMyVbucket 9);
            spelled = refl;
            response = refl;
            opcode = refl;
            opaque = refl;
            fits = inr (first_number, inl (status.NotMyVbucket, bare_so SET 9 status.NotMyVbucket, why_away no_vb, λ on. absurd (no_vb on)));
            calm = inr (inr (tt, refl));
          }),
        ),
        tt,
      ),
      tt,
      refl,
    ),
    tt,
  ),
)
    (heard_by _ _ _ _ _ (one_answered (behind (brings durable_bytes ∷ []) (ok [] ∷ [])) (λ n c e. rw e refl) (durable_next ((behind (brings durable_bytes ∷ []) (ok [] ∷ [])).clients_at 0 1).asking [] refl refl))
    (heard_by _ _ _ _ _ (no_more (brings durable_bytes ∷ waits ∷ []) (ok [] ∷ ok (durable_refused ∷ []) ∷ []) (λ n c e. rw e refl) refl refl) (heard_all _)))
