-- all that comes to a client's connection, and what it answers
use Rattle.std.proofs.Common.{◌≡◌, ℕ, ◌+◌, ◌≤◌, Bool, true, false, List, [], ◌∷◌, ◌++◌, length, drop, arith, refl, sym, ap, ◌∙◌, subst, append_assoc, append-nil, cond, inl, inr, Option, Some, None}
use Rattle.std.specs.Prelude.{◌==◌, if◌then◌else◌, is_some}
use Rattle.std.specs.List.{filter, flat_map, sum_by}
use Rattle.std.proofs.lemmas.Grind.{flat_map-append}
use Rattle.std.proofs.lemmas.List.{length-drop, drop-drop, drop-append-le}
use Rattle.std.proofs.lemmas.List.Elements.{filter-append}
use Rattle.std.proofs.lemmas.List.Sums.{sum_by-cons}
use Rattle.mcbp_frame.specs.Cutting.{fault_in, frame_in, front_fault, front_frame, frames_in, cut_len, left_of}
use Rattle.mcbp_frame.specs.Frames.{first_frame, faulty_head, frame_len}
use Rattle.mcbp_frame.specs.declared.frame.Frame.{Frame}
use Rattle.mcbp_frame.specs.declared.frame.FrameFault.{FrameFault}
use Rattle.mcbp_frame.specs.declared.frame.FrameFault.TheVariants.{BadMagic}
use Rattle.mcbp_frame.proofs.Cutting.{frames-one, frames-none, left-one, left-none}
use Rattle.mcbp_frame.proofs.Faults.{head_stays}
use Rattle.mcbp_frame.proofs.Pieces.{front_within, is_fault, fault_stays, frames-append, left-append}
use Rattle.vb_events.specs.declared.event.Event.{Event}
use Rattle.vb_calls.specs.declared.calls.Resolution.{Resolution}
use Rattle.vb_calls.specs.declared.calls.Resolved.{Resolved}
use Rattle.vb_calls.specs.declared.calls.VbCall.{VbCall}
use Rattle.vb_calls.specs.declared.calls.VbReply.{VbReply}
use Rattle.vb_calls.specs.Programs.{Prog, Done, Call, each, IsReply, AlwaysWith, AlwaysFormed}
use Rattle.vb_calls.proofs.Conduct.{always_so, always_front}
use Rattle.client_session.specs.declared.session.Awaited.{Awaited}
use Rattle.client_session.specs.declared.session.Who.{Who}
use Rattle.client_session.specs.Answers.{fault_lines, reply_line}
use Rattle.client_session.specs.Serving.{Served, served, new_session, with_bytes, outcome_reply, outcome_answered, outcome_by, outcome_handled, turns_handled, bytes_handled}
use Rattle.client_session.specs.Conduct.{IsClients, IsAnyClients, Answered, Replied, AllTold, asks, closing, kept, HasTaken, HasHalted, HasHanded, Took, Came, Piece, Outcome, Passed, passed_by, came_handled, bytes_of}
use Rattle.client_session.proofs.Conduct.{outcome_opcode, outcome_opaque}
use Rattle.client_session.proofs.Turns.{waiting_holds, handed_holds, is_closed}
use Rattle.client_session.proofs.Chunks.{kept_behind, nothing}
use Rattle.client_session.proofs.Taking.{Ahead, Split, took_behind, ends, turns_take, bytes_answered}

-- ---- bytes behind some of their frames

record CutAt (fs gs : List Frame) (bytes : List ℕ) : Type 0 where
  within : sum_by frame_len fs ≤ length bytes
  frames : frames_in (drop (sum_by frame_len fs) bytes) ≡ gs
  left : left_of (drop (sum_by frame_len fs) bytes) ≡ left_of bytes

head_same : (f g : Frame) (fs gs : List Frame) → f ∷ fs ≡ g ∷ gs → (f ≡ g) × (fs ≡ gs)
head_same f g fs gs e = (cc, cc)

cut_more : (f : Frame) (fs gs : List Frame) (bytes : List ℕ) → front_frame bytes ≡ Some f → CutAt fs gs (drop (frame_len f) bytes) → CutAt (f ∷ fs) gs bytes
cut_more f fs gs bytes e rest =
    let n : sum_by frame_len (f ∷ fs) ≡ frame_len f + sum_by frame_len fs = sum_by-cons frame_len f fs in
    let same : drop (sum_by frame_len fs) (drop (frame_len f) bytes) ≡ drop (sum_by frame_len (f ∷ fs)) bytes = drop-drop (sum_by frame_len fs) (frame_len f) bytes ∙ ap (λ m. drop m bytes) (sym n) in record {
      within = omega (arith, n, rest.within, length-drop (frame_len f) bytes, front_within bytes f e);
      frames = ap frames_in (sym same) ∙ rest.frames;
      left = ap left_of (sym same) ∙ rest.left ∙ sym (left-one bytes f e);
    }

cut_by : (f : Frame) (fs gs : List Frame) (bytes : List ℕ) (front : Option Frame) → ((rest : List ℕ) → frames_in rest ≡ fs ++ gs → CutAt fs gs rest)
    → front_frame bytes ≡ front → frames_in bytes ≡ f ∷ (fs ++ gs) → CutAt (f ∷ fs) gs bytes
cut_by f fs gs bytes None again n e = let none : [] ≡ f ∷ (fs ++ gs) = sym (frames-none bytes n) ∙ e in cc
cut_by f fs gs bytes (Some g) again o e =
    let both = head_same g f (frames_in (drop (frame_len g) bytes)) (fs ++ gs) (sym (frames-one bytes g o) ∙ e) in
    cut_more f fs gs bytes (o ∙ ap (λ x. Some x) both.0) (again (drop (frame_len f) bytes) (ap (λ x. frames_in (drop (frame_len x) bytes)) (sym both.0) ∙ both.1))

cut_at : (fs gs : List Frame) (bytes : List ℕ) → frames_in bytes ≡ fs ++ gs → CutAt fs gs bytes
cut_at [] gs bytes e = record { within = omega arith; frames = e; left = refl }
cut_at (f ∷ fs) gs bytes e = cut_by f fs gs bytes (front_frame bytes) (λ rest more. cut_at fs gs rest more) refl e

-- ---- bytes behind a fault

closing_told : (who : Who) (bytes : List ℕ) (fault : FrameFault) → fault_lines who.node who.client (faulty_head fault bytes) ≡ closing who bytes (Some fault)
unfolding reply_line
closing_told who bytes BadMagic = refl
closing_told who bytes fault = refl

-- ---- bytes that come

more_open : (bytes b : List ℕ) (t : Served) → t.session.reader ≡ left_of bytes → Split (bytes ++ b) (frames_in bytes) (t.session.reader ++ b)
unfolding left_of cut_len
more_open bytes b t r =
    let cut : CutAt (frames_in bytes) [] bytes = cut_at (frames_in bytes) [] bytes (sym (append-nil (frames_in bytes))) in record {
      frames = frames-append bytes b ∙ ap (λ x. frames_in bytes ++ frames_in (x ++ b)) (sym r);
      left = left-append bytes b ∙ ap (λ x. left_of (x ++ b)) (sym r);
      here = ap (λ x. x ++ b) r ∙ sym (drop-append-le (sum_by frame_len (frames_in bytes)) bytes b cut.within);
    }

-- behind some of their frames
split_at : (bytes rest : List ℕ) (front behind : List Frame) (f : Frame) → frames_in bytes ≡ front ++ f ∷ behind → rest ≡ drop (sum_by frame_len (front ++ f ∷ [])) bytes → Split bytes (front ++ f ∷ []) rest
split_at bytes rest front behind f frames reader =
    let fs : List Frame = front ++ f ∷ [] in
    let all : frames_in bytes ≡ fs ++ behind = frames ∙ sym (append_assoc front (f ∷ []) behind) in
    let cut : CutAt fs behind bytes = cut_at fs behind bytes all in record {
      frames = all ∙ ap (λ gs. fs ++ gs) (sym (ap frames_in reader ∙ cut.frames));
      left = sym (ap left_of reader ∙ cut.left);
      here = reader;
    }

-- the bytes that are kept behind one of them, where more come
more_kept : (bytes b rest : List ℕ) (front behind : List Frame) (f : Frame) → frames_in bytes ≡ front ++ f ∷ behind → rest ≡ drop (sum_by frame_len (front ++ f ∷ [])) bytes
    → (frames_in (bytes ++ b) ≡ front ++ f ∷ (behind ++ frames_in (left_of bytes ++ b))) × (rest ++ b ≡ drop (sum_by frame_len (front ++ f ∷ [])) (bytes ++ b))
more_kept bytes b rest front behind f frames reader =
    let more : List Frame = frames_in (left_of bytes ++ b) in
    let cut : CutAt (front ++ f ∷ []) behind bytes = cut_at (front ++ f ∷ []) behind bytes (frames ∙ sym (append_assoc front (f ∷ []) behind)) in (
      frames-append bytes b ∙ ap (λ fs. fs ++ more) frames ∙ append_assoc front (f ∷ behind) more,
      ap (λ r. r ++ b) reader ∙ sym (drop-append-le (sum_by frame_len (front ++ f ∷ [])) bytes b cut.within),
    )

asks_one : (f : Frame) → asks f ≡ true → filter asks (f ∷ []) ≡ f ∷ []
asks_one f e = ap (λ b. cond b (f ∷ []) []) e

-- calls of one kind are of a wider one
always_calls : {A : Type 0} (replies : VbCall → Option VbReply → Type 0) (calls more : ℕ → VbCall → Type 0) (answers : A → Type 0) (prog : Prog A) → ((v : ℕ) (c : VbCall) → calls v c → more v c)
    → AlwaysWith replies calls answers prog → AlwaysWith replies more answers prog
always_calls replies calls more answers (Done a) wider always = always
always_calls replies calls more answers (Call v call next) wider always =
    (wider v call always.0, λ reply formed. always_calls replies calls more answers (next reply) wider (always.1 reply formed))

-- ---- what is answered by the connection, and by its node by these lines

module _ (node_lines : Frame → List Event) where
  abbrev Tells : Who → Frame → List Event → Type 0
  Tells = Replied node_lines

  own : (who : Who) (f : Frame) (lines : List Event) → Answered who f lines → Replied node_lines who f lines
  own who f lines answered = inl answered

  -- ---- answers, and more answers

  all_append : (who : Who) (fs gs : List Frame) (lines more : List Event) → AllTold Tells who fs lines → AllTold Tells who gs more → AllTold Tells who (fs ++ gs) (lines ++ more)
  all_append who [] gs lines more none all = subst (λ l. AllTold Tells who gs (l ++ more)) (sym none) all
  all_append who (f ∷ fs) gs lines more (first, rest, joined, here, later) all =
      (first, rest ++ more, ap (λ l. l ++ more) joined ∙ append_assoc first rest more, here, all_append who fs gs rest more later all)

  ahead : (fs : List Frame) (at : Who) (before mine : List Event) (t : Served) → t.session.who ≡ at → t.events ≡ before ++ mine → AllTold Tells at (filter asks fs) mine → Ahead Tells own fs at before t
  ahead fs at before mine t who told answered = record {
    who = who;
    mine = mine;
    told = told;
    joins = λ gs lines all.
        subst (λ hs. AllTold Tells at hs (mine ++ lines)) (sym (filter-append asks fs gs)) (all_append at (filter asks fs) (filter asks gs) mine lines answered all);
  }

  -- frames that were answered, and a request behind them that is now
  ahead_one : (front : List Frame) (f : Frame) (at : Who) (before lines line : List Event) (t : Served) → asks f ≡ true → t.session.who ≡ at → t.events ≡ before ++ lines ++ line
      → AllTold Tells at (filter asks front) lines → Replied node_lines at f line → Ahead Tells own (front ++ f ∷ []) at before t
  ahead_one front f at before lines line t asked who told answered one =
      ahead (front ++ f ∷ []) at before (lines ++ line) t who (told ∙ append_assoc before lines line)
      (subst (λ fs. AllTold Tells at fs (lines ++ line)) (sym (filter-append asks front (f ∷ []) ∙ ap (λ fs. filter asks front ++ fs) (asks_one f asked)))
      (all_append at (filter asks front) (f ∷ []) lines line answered (line, [], sym (append-nil line), one, refl)))

  -- ---- bytes behind a durable write that is awaited, or a frame that was handed up

  more_halted : (bytes b : List ℕ) (a : Awaited) (s t : Served) → HasHalted Tells bytes a s t → HasHalted Tells (bytes ++ b) a s (with_bytes (t.session.reader ++ b) t)
  more_halted bytes b a s t h =
      let more = more_kept bytes b t.session.reader h.front h.behind h.f h.frames h.reader in record {
        who = h.who;
        front = h.front;
        f = h.f;
        behind = h.behind ++ frames_in (left_of bytes ++ b);
        frames = more.0;
        asked = h.asked;
        lines = h.lines;
        made = h.made;
        told = h.told;
        answered = h.answered;
        begun = h.begun;
        waiter = h.waiter;
        reader = more.1;
        closed = h.closed;
      }

  more_handed : (bytes b : List ℕ) (f : Frame) (s t : Served) → HasHanded Tells bytes f s t → HasHanded Tells (bytes ++ b) f s (with_bytes (t.session.reader ++ b) t)
  more_handed bytes b f s t h =
      let more = more_kept bytes b t.session.reader h.front h.behind f h.frames h.reader in record {
        who = h.who;
        front = h.front;
        behind = h.behind ++ frames_in (left_of bytes ++ b);
        frames = more.0;
        asked = h.asked;
        dcp = h.dcp;
        lines = h.lines;
        told = h.told;
        answered = h.answered;
        reader = more.1;
        closed = h.closed;
      }

  -- ---- bytes behind a fault

  more_closed : (bytes b : List ℕ) (fault : FrameFault) (s t : Served) → front_fault (left_of bytes) ≡ Some fault → HasTaken Tells bytes s t → HasTaken Tells (bytes ++ b) s t
  more_closed bytes b fault s t e h =
      let left : List ℕ = left_of bytes in
      let stays = fault_stays left b fault e in
      let none : front_frame (left ++ b) ≡ None = ap frame_in (is_fault (first_frame (left ++ b)) fault stays.0) in
      let rest : left_of (bytes ++ b) ≡ left ++ b = left-append bytes b ∙ left-none (left ++ b) none in
      let found : front_fault (left_of (bytes ++ b)) ≡ Some fault = ap front_fault rest ∙ stays.0 in
      let who : Who = s.session.who in
      let same : closing who (left ++ b) (Some fault) ≡ closing who left (Some fault) =
      sym (closing_told who (left ++ b) fault) ∙ ap (fault_lines who.node who.client) (head_stays left b fault e) ∙ closing_told who left fault in record {
        who = h.who;
        lines = h.lines;
        told = h.told ∙ ap (λ o. s.events ++ h.lines ++ closing who left o) e ∙ ap (λ l. s.events ++ h.lines ++ l) (sym same)
            ∙ (λ i. s.events ++ h.lines ++ closing who (sym rest i) (Some fault)) ∙ ap (λ o. s.events ++ h.lines ++ closing who (left_of (bytes ++ b)) o) (sym found);
        answered = subst (λ fs. AllTold Tells who (filter asks fs) h.lines) (sym (frames-append bytes b ∙ ap (λ fs. frames_in bytes ++ fs) stays.1 ∙ append-nil (frames_in bytes))) h.answered;
        reader = h.reader ∙ ap (kept left) e ∙ ap (kept (left_of (bytes ++ b))) (sym found);
        closed = h.closed ∙ ap is_some (e ∙ sym found);
      }

  -- ---- bytes that come

  After : List ℕ → Served → Served → Type 0
  After bytes s t = Took Tells bytes t.session.awaited t.dcp s t

  so : (bytes : List ℕ) (s t : Served) (o : Option Awaited) (d : Option Frame) → t.session.awaited ≡ o → t.dcp ≡ d → Took Tells bytes o d s t → After bytes s t
  unfolding After
  so bytes s t o d e f took = subst (λ x. Took Tells bytes x t.dcp s t) (sym e) (subst (λ x. Took Tells bytes o x s t) (sym f) took)

  -- bytes behind frames of which each has its lines
  after_ahead : (clock : ℕ) (b bytes : List ℕ) (fs : List Frame) (s t : Served) → Ahead Tells own fs s.session.who s.events t → Split bytes fs (t.session.reader ++ b)
      → t.session.closed ≡ false → t.session.awaited ≡ None → t.dcp ≡ None → AlwaysFormed (IsClients clock) (After bytes s) (bytes_handled clock b t)
  unfolding After
  after_ahead clock b bytes fs s t one split live none free =
      always_so IsReply (IsClients clock) (λ u. Took Tells (t.session.reader ++ b) u.session.awaited u.dcp t u) (After bytes s) (bytes_handled clock b t)
      (λ u took. took_behind Tells own bytes (t.session.reader ++ b) fs u.session.awaited u.dcp s t u one split took) (bytes_answered Tells own clock b t live none free)

  piece_open : (clock : ℕ) (b bytes : List ℕ) (s t : Served) (fault : Option FrameFault) → front_fault (left_of bytes) ≡ fault → t.session.awaited ≡ None → t.dcp ≡ None → HasTaken Tells bytes s t
      → AlwaysFormed (IsClients clock) (After (bytes ++ b) s) (bytes_handled clock b t)
  piece_open clock b bytes s t (Some fault) e none free h =
      subst (AlwaysFormed (IsClients clock) (After (bytes ++ b) s)) (sym (is_closed clock b t (h.closed ∙ ap is_some e)))
      (so (bytes ++ b) s t None None none free (more_closed bytes b fault s t e h))
  piece_open clock b bytes s t None e none free h =
      let reader : t.session.reader ≡ left_of bytes = h.reader ∙ ap (kept (left_of bytes)) e in
      let told : t.events ≡ s.events ++ h.lines = h.told ∙ ap (λ o. s.events ++ h.lines ++ closing s.session.who (left_of bytes) o) e ∙ append-nil (s.events ++ h.lines) in
      after_ahead clock b (bytes ++ b) (frames_in bytes) s t (ahead (frames_in bytes) s.session.who s.events h.lines t h.who told h.answered) (more_open bytes b t reader)
      (h.closed ∙ ap is_some e) none free

  piece_by : (clock : ℕ) (b bytes : List ℕ) (s t : Served) (o : Option Awaited) (d : Option Frame) → t.session.awaited ≡ o → t.dcp ≡ d → Took Tells bytes o d s t
      → AlwaysFormed (IsClients clock) (After (bytes ++ b) s) (bytes_handled clock b t)
  piece_by clock b bytes s t None None e free h = piece_open clock b bytes s t (front_fault (left_of bytes)) refl e free h
  piece_by clock b bytes s t (Some a) None e free h =
      subst (AlwaysFormed (IsClients clock) (After (bytes ++ b) s)) (sym (kept_behind clock b t h.closed (waiting_holds t (ap is_some e))))
      (so (bytes ++ b) s (with_bytes (t.session.reader ++ b) t) (Some a) None e free (more_halted bytes b a s t h))
  piece_by clock b bytes s t None (Some f) e up h =
      subst (AlwaysFormed (IsClients clock) (After (bytes ++ b) s)) (sym (kept_behind clock b t h.closed (handed_holds t f up)))
      (so (bytes ++ b) s (with_bytes (t.session.reader ++ b) t) None (Some f) e up (more_handed bytes b f s t h))
  piece_by clock b bytes s t (Some a) (Some f) e up h = absurd h

  -- ---- an outcome

  outcome_answers : (bytes : List ℕ) (a : Awaited) (how : Resolution) (s t : Served) (h : HasHalted Tells bytes a s t)
      → Answered s.session.who h.f (h.made ++ reply_line t.session.who.node t.session.who.client (outcome_reply t.session.settings a how) ∷ [])
  unfolding reply_line
  outcome_answers bytes a how s t h = record {
    own = h.begun.own;
    uuid = h.begun.uuid;
    changes = h.begun.changes;
    reply = outcome_reply t.session.settings a how;
    told = λ i. h.begun.told i ++ reply_line (h.who i).node (h.who i).client (outcome_reply t.session.settings a how) ∷ [];
    opcode = outcome_opcode t.session.settings a how ∙ h.begun.opcode;
    opaque = outcome_opaque t.session.settings a how ∙ h.begun.opaque;
  }

  outcome_ahead : (bytes : List ℕ) (a : Awaited) (how : Resolution) (s t : Served) (h : HasHalted Tells bytes a s t) → Ahead Tells own (h.front ++ h.f ∷ []) s.session.who s.events (outcome_answered a how t)
  outcome_ahead bytes a how s t h =
      let line : List Event = reply_line t.session.who.node t.session.who.client (outcome_reply t.session.settings a how) ∷ [] in
      ahead_one h.front h.f s.session.who s.events h.lines (h.made ++ line) (outcome_answered a how t) h.asked h.who
      (ap (λ es. es ++ line) h.told ∙ append_assoc (s.events ++ h.lines) h.made line) h.answered (inl (outcome_answers bytes a how s t h))

  outcome_if : (clock : ℕ) (r : Resolved) (bytes : List ℕ) (a : Awaited) (s t : Served) (mine : Bool) → t.session.awaited ≡ Some a → t.dcp ≡ None → HasHalted Tells bytes a s t
      → AlwaysFormed (IsClients clock) (After bytes s) (if mine then turns_handled clock (outcome_answered a r.how t) else Done t)
  unfolding After
  outcome_if clock r bytes a s t false e free h = so bytes s t (Some a) None e free h
  outcome_if clock r bytes a s t true e free h =
      let start : Served = outcome_answered a r.how t in
      always_so IsReply (IsClients clock) (λ u. Took Tells t.session.reader u.session.awaited u.dcp start u) (After bytes s) (turns_handled clock start)
      (λ u took.
      took_behind Tells own bytes t.session.reader (h.front ++ h.f ∷ []) u.session.awaited u.dcp s start u (outcome_ahead bytes a r.how s t h)
      (split_at bytes t.session.reader h.front h.behind h.f h.frames h.reader) took)
      (turns_take Tells own clock start h.closed refl free)

  outcome_of_by : (clock : ℕ) (r : Resolved) (bytes : List ℕ) (s t : Served) (o : Option Awaited) (d : Option Frame) → t.session.awaited ≡ o → t.dcp ≡ d → Took Tells bytes o d s t
      → AlwaysFormed (IsClients clock) (After bytes s) (outcome_by clock r t o)
  outcome_of_by clock r bytes s t None d e free h = so bytes s t None d e free h
  outcome_of_by clock r bytes s t (Some a) None e free h = outcome_if clock r bytes a s t (a.waiter == r.waiter) e free h
  outcome_of_by clock r bytes s t (Some a) (Some f) e free h = absurd h

  -- ---- a frame that was handed up was answered

  passed_ahead : (bytes : List ℕ) (f : Frame) (s t : Served) (h : HasHanded Tells bytes f s t) → Ahead Tells own (h.front ++ f ∷ []) s.session.who s.events (served t.session (t.events ++ node_lines f))
  passed_ahead bytes f s t h =
      ahead_one h.front f s.session.who s.events h.lines (node_lines f) (served t.session (t.events ++ node_lines f)) h.asked h.who (ap (λ es. es ++ node_lines f) h.told) h.answered (inr (h.dcp, refl))

  passed_of_by : (clock : ℕ) (bytes : List ℕ) (s t : Served) (o : Option Awaited) (d : Option Frame) → t.session.awaited ≡ o → t.dcp ≡ d → Took Tells bytes o d s t
      → AlwaysFormed (IsClients clock) (After bytes s) (passed_by clock node_lines t d)
  passed_of_by clock bytes s t o None e free h = so bytes s t o None e free h
  passed_of_by clock bytes s t (Some a) (Some f) e up h = absurd h
  passed_of_by clock bytes s t None (Some f) e up h =
      let start : Served = served t.session (t.events ++ node_lines f) in
      after_ahead clock [] bytes (h.front ++ f ∷ []) s start (passed_ahead bytes f s t h)
      (split_at bytes (t.session.reader ++ []) h.front h.behind f h.frames (append-nil t.session.reader ∙ h.reader)) h.closed e refl

  -- ---- all that comes

  came_after : (bytes : List ℕ) (s t : Served) (x : Came) → After bytes s t → AlwaysFormed IsAnyClients (After (bytes ++ bytes_of x) s) (came_handled node_lines x t)
  unfolding After outcome_handled
  came_after bytes s t (Piece clock b) h =
      always_calls IsReply (IsClients clock) IsAnyClients (After (bytes ++ b) s) (bytes_handled clock b t) (λ v c mine. (clock, mine)) (piece_by clock b bytes s t t.session.awaited t.dcp refl refl h)
  came_after bytes s t (Outcome clock r) h =
      subst (λ all. AlwaysFormed IsAnyClients (After all s) (outcome_handled clock r t)) (sym (append-nil bytes))
      (always_calls IsReply (IsClients clock) IsAnyClients (After bytes s) (outcome_handled clock r t) (λ v c mine. (clock, mine)) (outcome_of_by clock r bytes s t t.session.awaited t.dcp refl refl h))
  came_after bytes s t (Passed clock) h =
      subst (λ all. AlwaysFormed IsAnyClients (After all s) (passed_by clock node_lines t t.dcp)) (sym (append-nil bytes))
      (always_calls IsReply (IsClients clock) IsAnyClients (After bytes s) (passed_by clock node_lines t t.dcp) (λ v c mine. (clock, mine)) (passed_of_by clock bytes s t t.session.awaited t.dcp refl refl h))

  came_next : (s : Served) (front : List Came) (x : Came) (t : Served) → After (flat_map bytes_of front) s t → AlwaysFormed IsAnyClients (After (flat_map bytes_of (front ++ x ∷ [])) s) (came_handled node_lines x t)
  came_next s front x t h =
      subst (λ all. AlwaysFormed IsAnyClients (After all s) (came_handled node_lines x t))
      (sym (flat_map-append bytes_of front (x ∷ []) ∙ ap (λ l. flat_map bytes_of front ++ l) (append-nil (bytes_of x)))) (came_after (flat_map bytes_of front) s t x h)

  pub all_answered : (who : Who) (came : List Came)
      → AlwaysFormed IsAnyClients (λ t. Took (Replied node_lines) (flat_map bytes_of came) t.session.awaited t.dcp (served (new_session who) []) t)
      (each (came_handled node_lines) came (served (new_session who) []))
  unfolding After
  all_answered who came =
      let s : Served = served (new_session who) [] in
      always_front IsReply IsAnyClients (λ front t. After (flat_map bytes_of front) s t) (came_handled node_lines) (came_next s) [] came (Done s)
      (ends Tells own s None (ap frame_in nothing) (ap fault_in nothing) refl)
