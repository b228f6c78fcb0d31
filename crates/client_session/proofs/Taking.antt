-- what a client's connection answers to the bytes that come, whatever its vBuckets reply
use Rattle.std.proofs.Common.{◌≡◌, ℕ, ◌+◌, ◌*◌, ◌^◌, Bool, true, false, List, [], ◌∷◌, ◌++◌, drop, refl, sym, ap, ◌∙◌, subst, cond, append_assoc, append-nil, Option, Some, None, Result, Ok}
use Rattle.std.specs.Prelude.{◌==◌, not, if◌then◌else◌, is_some}
use Rattle.std.specs.List.{filter, sum_by}
use Rattle.std.proofs.Math.Nat.{add-zero}
use Rattle.std.proofs.lemmas.List.{drop-drop}
use Rattle.std.proofs.lemmas.List.Sums.{sum_by-cons, sum_by-append}
use Rattle.mcbp_frame.specs.Cutting.{fault_in, frame_in, front_fault, front_frame, frames_in, left_of}
use Rattle.mcbp_frame.specs.Frames.{first_frame, frame_len}
use Rattle.mcbp_frame.specs.declared.frame.Frame.{Frame}
use Rattle.mcbp_frame.specs.declared.frame.FrameFault.{FrameFault}
use Rattle.mcbp_frame.specs.declared.frame.FrameFault.TheVariants.{BadMagic}
use Rattle.mcbp_frame.specs.declared.frame.TheConstants.{RESPONSE}
use Rattle.mcbp_frame.proofs.Cutting.{frames-one, frames-none, left-one, left-none}
use Rattle.mcbp_kv.specs.Requests.{request_of}
use Rattle.mcbp_kv.specs.declared.request.KvRequest.{KvRequest}
use Rattle.vb_types.specs.declared.status.Status.{Status}
use Rattle.vb_events.specs.declared.event.Event.{Event}
use Rattle.vb_calls.specs.Programs.{Prog, Done, bind, AnyReply, IsReply, AnyCall, AlwaysFormed}
use Rattle.vb_calls.proofs.Conduct.{always_bind, always_so, always_both}
use Rattle.client_session.specs.declared.session.Awaited.{Awaited}
use Rattle.client_session.specs.declared.session.Who.{Who}
use Rattle.client_session.specs.Answers.{reply_line}
use Rattle.client_session.specs.Serving.{Served, with_bytes, is_dcp, handed, is_held, request_handled, frame_answered, frame_handled, ended_at, turns_handled, bytes_handled}
use Rattle.client_session.specs.Conduct.{IsClients, Answered, AllTold, asks, closing, kept, HasTaken, Begun, HasHalted, HasHanded, Took}
use Rattle.client_session.proofs.Conduct.{Stays, Gives, gives_answer, gives_begun, request_gives, request_stays, request_unhanded}
use Rattle.client_session.proofs.Turns.{not_held, waiting_holds, turns_waiting, turns_none, turns_fault, turns_frame, by_turns, is_opened}

-- ---- no frame

end_told : (t : Served) (fault : Option FrameFault) → (ended_at fault t).events ≡ t.events ++ closing t.session.who t.session.reader fault
unfolding reply_line
end_told t None = sym (append-nil t.events)
end_told t (Some BadMagic) = refl
end_told t (Some fault) = refl

end_closed : (t : Served) (fault : Option FrameFault) → t.session.closed ≡ false → (ended_at fault t).session.closed ≡ is_some fault
end_closed t None e = e
end_closed t (Some fault) e = refl

end_who : (t : Served) (fault : Option FrameFault) → (ended_at fault t).session.who ≡ t.session.who
end_who t None = refl
end_who t (Some fault) = refl

end_reader : (t : Served) (fault : Option FrameFault) → (ended_at fault t).session.reader ≡ kept t.session.reader fault
end_reader t None = refl
end_reader t (Some fault) = refl

-- ---- frames

pub asks_first : (f : Frame) (fs : List Frame) (b : Bool) → (f.magic == RESPONSE) ≡ b → filter asks (f ∷ fs) ≡ cond (not b) (f ∷ filter asks fs) (filter asks fs)
asks_first f fs b e = ap (λ t. cond (not t) (f ∷ filter asks fs) (filter asks fs)) e

-- bytes are these frames, and the rest
pub record Split (bytes : List ℕ) (fs : List Frame) (rest : List ℕ) : Type 0 where
  pub frames : frames_in bytes ≡ fs ++ frames_in rest
  pub left : left_of bytes ≡ left_of rest
  pub here : rest ≡ drop (sum_by frame_len fs) bytes

-- the first frame of bytes
split_first : (bytes rest : List ℕ) (f : Frame) → front_frame bytes ≡ Some f → rest ≡ drop (frame_len f) bytes → Split bytes (f ∷ []) rest
split_first bytes rest f e here = record {
  frames = frames-one bytes f e ∙ ap (λ r. f ∷ frames_in r) (sym here);
  left = left-one bytes f e ∙ ap left_of (sym here);
  here = here ∙ ap (λ n. drop n bytes) (sym (sum_by-cons frame_len f [] ∙ add-zero (frame_len f)));
}

further : (bytes rest : List ℕ) (fs gs : List Frame) → rest ≡ drop (sum_by frame_len fs) bytes → drop (sum_by frame_len gs) rest ≡ drop (sum_by frame_len (fs ++ gs)) bytes
further bytes rest fs gs e =
    ap (drop (sum_by frame_len gs)) e ∙ drop-drop (sum_by frame_len gs) (sum_by frame_len fs) bytes ∙ ap (λ n. drop n bytes) (sym (sum_by-append frame_len fs gs))

-- ---- where the lines of a request are those of its answer, if it has one here

module _ (Tells : Who → Frame → List Event → Type 0) (own : (who : Who) (f : Frame) (lines : List Event) → Answered who f lines → Tells who f lines) where
  -- without a frame the connection is at its end, or has less than a frame
  pub ends : (s : Served) (fault : Option FrameFault) → frame_in (first_frame s.session.reader) ≡ None → front_fault s.session.reader ≡ fault → s.session.closed ≡ false
      → HasTaken Tells s.session.reader s (ended_at fault s)
  ends s fault none e live =
      let left : left_of s.session.reader ≡ s.session.reader = left-none s.session.reader none in
      let same : fault ≡ front_fault (left_of s.session.reader) = sym (ap front_fault left ∙ e) in record {
        who = end_who s fault;
        lines = [];
        told = end_told s fault ∙ (λ i. sym (append-nil s.events) i ++ closing s.session.who (sym left i) (same i));
        answered = subst (λ fs. AllTold Tells s.session.who (filter asks fs) []) (sym (frames-none s.session.reader none)) refl;
        reader = end_reader s fault ∙ (λ i. kept (sym left i) (same i));
        closed = end_closed s fault live ∙ ap is_some same;
      }

  -- ---- frames, and what is taken behind them

  -- the lines of these frames, of which a response has none
  pub record Ahead (fs : List Frame) (at : Who) (before : List Event) (t : Served) : Type 0 where
    pub who : t.session.who ≡ at
    pub mine : List Event
    pub told : t.events ≡ before ++ mine
    pub joins : (gs : List Frame) (lines : List Event) → AllTold Tells at (filter asks gs) lines → AllTold Tells at (filter asks (fs ++ gs)) (mine ++ lines)

  dropped : (f : Frame) (at : Who) (before : List Event) (t : Served) → (f.magic == RESPONSE) ≡ true → t.session.who ≡ at → t.events ≡ before → Ahead (f ∷ []) at before t
  dropped f at before t e who told = record {
    who = who;
    mine = [];
    told = told ∙ sym (append-nil before);
    joins = λ fs lines all. subst (λ gs. AllTold Tells at gs lines) (sym (asks_first f fs true e)) all;
  }

  answered_first : (f : Frame) (at : Who) (before : List Event) (t : Served) → (f.magic == RESPONSE) ≡ false → (gives : Gives f at before t) → t.session.awaited ≡ None → Ahead (f ∷ []) at before t
  answered_first f at before t e gives none = record {
    who = gives.who;
    mine = gives.lines;
    told = gives.told;
    joins = λ fs lines all.
        subst (λ gs. AllTold Tells at gs (gives.lines ++ lines)) (sym (asks_first f fs false e))
        (gives.lines, lines, refl, own at f gives.lines (gives_answer f at before t gives none), all);
  }

  taken_behind : (bytes rest : List ℕ) (fs : List Frame) (s t u : Served) → Ahead fs s.session.who s.events t → Split bytes fs rest → HasTaken Tells rest t u → HasTaken Tells bytes s u
  taken_behind bytes rest fs s t u one split later = record {
    who = later.who ∙ one.who;
    lines = one.mine ++ later.lines;
    told = later.told
        ∙ (λ i. one.told i ++ later.lines ++ closing (one.who i) (sym split.left i) (front_fault (sym split.left i)))
        ∙ ap (λ es. es ++ closing s.session.who (left_of bytes) (front_fault (left_of bytes))) (append_assoc s.events one.mine later.lines);
    answered = subst (λ gs. AllTold Tells s.session.who (filter asks gs) (one.mine ++ later.lines)) (sym split.frames)
        (one.joins (frames_in rest) later.lines (subst (λ w. AllTold Tells w (filter asks (frames_in rest)) later.lines) one.who later.answered));
    reader = later.reader ∙ (λ i. kept (sym split.left i) (front_fault (sym split.left i)));
    closed = later.closed ∙ (λ i. is_some (front_fault (sym split.left i)));
  }

  halted_behind : (bytes rest : List ℕ) (fs : List Frame) (a : Awaited) (s t u : Served) → Ahead fs s.session.who s.events t → Split bytes fs rest → HasHalted Tells rest a t u
      → HasHalted Tells bytes a s u
  halted_behind bytes rest fs a s t u one split later = record {
    who = later.who ∙ one.who;
    front = fs ++ later.front;
    f = later.f;
    behind = later.behind;
    frames = split.frames ∙ ap (λ gs. fs ++ gs) later.frames ∙ sym (append_assoc fs later.front (later.f ∷ later.behind));
    asked = later.asked;
    lines = one.mine ++ later.lines;
    made = later.made;
    told = later.told ∙ ap (λ es. es ++ later.lines ++ later.made) one.told ∙ ap (λ es. es ++ later.made) (append_assoc s.events one.mine later.lines);
    answered = one.joins later.front later.lines (subst (λ w. AllTold Tells w (filter asks later.front) later.lines) one.who later.answered);
    begun = subst (λ w. Begun w later.f a later.made) one.who later.begun;
    waiter = later.waiter ∙ ap (λ (w : Who). w.base * 2 ^ 32 + u.session.used) one.who;
    reader = later.reader ∙ further bytes rest fs (later.front ++ later.f ∷ []) split.here
        ∙ ap (λ gs. drop (sum_by frame_len gs) bytes) (sym (append_assoc fs later.front (later.f ∷ [])));
    closed = later.closed;
  }

  handed_behind : (bytes rest : List ℕ) (fs : List Frame) (f : Frame) (s t u : Served) → Ahead fs s.session.who s.events t → Split bytes fs rest → HasHanded Tells rest f t u
      → HasHanded Tells bytes f s u
  handed_behind bytes rest fs f s t u one split later = record {
    who = later.who ∙ one.who;
    front = fs ++ later.front;
    behind = later.behind;
    frames = split.frames ∙ ap (λ gs. fs ++ gs) later.frames ∙ sym (append_assoc fs later.front (f ∷ later.behind));
    asked = later.asked;
    dcp = later.dcp;
    lines = one.mine ++ later.lines;
    told = later.told ∙ ap (λ es. es ++ later.lines) one.told ∙ append_assoc s.events one.mine later.lines;
    answered = one.joins later.front later.lines (subst (λ w. AllTold Tells w (filter asks later.front) later.lines) one.who later.answered);
    reader = later.reader ∙ further bytes rest fs (later.front ++ f ∷ []) split.here ∙ ap (λ gs. drop (sum_by frame_len gs) bytes) (sym (append_assoc fs later.front (f ∷ [])));
    closed = later.closed;
  }

  pub took_behind : (bytes rest : List ℕ) (fs : List Frame) (o : Option Awaited) (d : Option Frame) (s t u : Served) → Ahead fs s.session.who s.events t → Split bytes fs rest
      → Took Tells rest o d t u → Took Tells bytes o d s u
  took_behind bytes rest fs None None s t u one split later = taken_behind bytes rest fs s t u one split later
  took_behind bytes rest fs (Some a) None s t u one split later = halted_behind bytes rest fs a s t u one split later
  took_behind bytes rest fs None (Some f) s t u one split later = handed_behind bytes rest fs f s t u one split later
  took_behind bytes rest fs (Some a) (Some f) s t u one split later = absurd later

  -- the first frame is a durable write whose outcome is awaited
  halts : (bytes rest : List ℕ) (f : Frame) (a : Awaited) (s t : Served) → (f.magic == RESPONSE) ≡ false → (gives : Gives f s.session.who s.events t) → t.session.awaited ≡ Some a
      → Split bytes (f ∷ []) rest → t.session.reader ≡ rest → t.session.closed ≡ false → HasHalted Tells bytes a s t
  halts bytes rest f a s t e gives some split reader live = record {
    who = gives.who;
    front = [];
    f = f;
    behind = frames_in rest;
    frames = split.frames;
    asked = ap not e;
    lines = [];
    made = gives.lines;
    told = gives.told ∙ ap (λ es. es ++ gives.lines) (sym (append-nil s.events));
    answered = refl;
    begun = (gives_begun f s.session.who s.events t a gives some).0;
    waiter = (gives_begun f s.session.who s.events t a gives some).1;
    reader = reader ∙ split.here;
    closed = live;
  }

  -- the first frame is a request of DCP, and is handed up
  hands : (bytes rest : List ℕ) (f : Frame) (s : Served) → (f.magic == RESPONSE) ≡ false → is_dcp f.opcode ≡ true → Split bytes (f ∷ []) rest → s.session.closed ≡ false
      → HasHanded Tells bytes f s (handed f (with_bytes rest s))
  hands bytes rest f s e dcp split live = record {
    who = refl;
    front = [];
    behind = frames_in rest;
    frames = split.frames;
    asked = ap not e;
    dcp = dcp;
    lines = [];
    told = sym (append-nil s.events);
    answered = refl;
    reader = split.here;
    closed = live;
  }

  -- ---- turn after turn

  Here : List ℕ → Served → Served → Type 0
  Here bytes s t = Took Tells bytes t.session.awaited t.dcp s t

  here : (bytes : List ℕ) (s t : Served) (o : Option Awaited) (d : Option Frame) → t.session.awaited ≡ o → t.dcp ≡ d → Took Tells bytes o d s t → Here bytes s t
  unfolding Here
  here bytes s t o d e f took = subst (λ x. Took Tells bytes x t.dcp s t) (sym e) (subst (λ x. Took Tells bytes o x s t) (sym f) took)

  Takes : ℕ → Served → Type 0
  Takes clock s = s.session.closed ≡ false → s.session.awaited ≡ None → s.dcp ≡ None → AlwaysFormed (IsClients clock) (Here s.session.reader s) (turns_handled clock s)

  takes_done : (clock : ℕ) (s t : Served) → turns_handled clock s ≡ Done t → t.session.awaited ≡ None → t.dcp ≡ None → HasTaken Tells s.session.reader s t
      → AlwaysFormed (IsClients clock) (Here s.session.reader s) (turns_handled clock s)
  takes_done clock s t e none free taken = subst (AlwaysFormed (IsClients clock) (Here s.session.reader s)) (sym e) (here s.session.reader s t None None none free taken)

  -- behind a frame that was answered, or dropped
  goes_on : (clock : ℕ) (f : Frame) (s t : Served) → first_frame s.session.reader ≡ Some (Ok f) → ((u : Served) → u.session.reader ≡ drop (frame_len f) s.session.reader → Takes clock u)
      → Ahead (f ∷ []) s.session.who s.events t → t.session.reader ≡ drop (frame_len f) s.session.reader → t.session.closed ≡ false → t.session.awaited ≡ None → t.dcp ≡ None
      → AlwaysFormed (IsClients clock) (Here s.session.reader s) (turns_handled clock t)
  unfolding Takes Here
  goes_on clock f s t first later one reader live none free =
      let bytes : List ℕ = s.session.reader in
      always_so IsReply (IsClients clock) (Here t.session.reader t) (Here bytes s) (turns_handled clock t)
      (λ u took. took_behind bytes t.session.reader (f ∷ []) u.session.awaited u.dcp s t u one (split_first bytes t.session.reader f (ap frame_in first) reader) took)
      (later t reader live none free)

  -- behind a request
  served_by : (clock : ℕ) (f : Frame) (s t : Served) (o : Option Awaited) → first_frame s.session.reader ≡ Some (Ok f)
      → ((u : Served) → u.session.reader ≡ drop (frame_len f) s.session.reader → Takes clock u)
      → (f.magic == RESPONSE) ≡ false → Gives f s.session.who s.events t → t.session.reader ≡ drop (frame_len f) s.session.reader → t.session.closed ≡ false → t.session.awaited ≡ o → t.dcp ≡ None
      → AlwaysFormed (IsClients clock) (Here s.session.reader s) (turns_handled clock t)
  served_by clock f s t None first later e gives reader live none free =
      goes_on clock f s t first later (answered_first f s.session.who s.events t e gives none) reader live none free
  served_by clock f s t (Some a) first later e gives reader live some free =
      let bytes : List ℕ = s.session.reader in
      subst (AlwaysFormed (IsClients clock) (Here bytes s)) (sym (turns_waiting clock t (waiting_holds t (ap is_some some))))
      (here bytes s t (Some a) None some free
      (halts bytes (drop (frame_len f) bytes) f a s t e gives some (split_first bytes (drop (frame_len f) bytes) f (ap frame_in first) refl) reader live))

  frame_by : (clock : ℕ) (f : Frame) (s : Served) (response dcp : Bool) → first_frame s.session.reader ≡ Some (Ok f)
      → ((u : Served) → u.session.reader ≡ drop (frame_len f) s.session.reader → Takes clock u) → s.session.closed ≡ false → s.session.awaited ≡ None → s.dcp ≡ None
      → (f.magic == RESPONSE) ≡ response → is_dcp f.opcode ≡ dcp
      → AlwaysFormed (IsClients clock) (Here s.session.reader s)
      (bind (if response then Done (with_bytes (drop (frame_len f) s.session.reader) s)
      else if dcp then Done (handed f (with_bytes (drop (frame_len f) s.session.reader) s))
      else frame_answered clock f (with_bytes (drop (frame_len f) s.session.reader) s)) (turns_handled clock))
  frame_by clock f s true dcp first later live none free e d =
      goes_on clock f s (with_bytes (drop (frame_len f) s.session.reader) s) first later
      (dropped f s.session.who s.events (with_bytes (drop (frame_len f) s.session.reader) s) e refl refl) refl live none free
  frame_by clock f s false true first later live none free e d =
      let bytes : List ℕ = s.session.reader in
      let rest : List ℕ = drop (frame_len f) bytes in
      let end : Served = handed f (with_bytes rest s) in
      subst (AlwaysFormed (IsClients clock) (Here bytes s)) (sym (turns_waiting clock end refl))
      (here bytes s end None (Some f) none refl (hands bytes rest f s e d (split_first bytes rest f (ap frame_in first) refl) live))
  frame_by clock f s false false first later live none free e d =
      let start : Served = with_bytes (drop (frame_len f) s.session.reader) s in
      let r : Result KvRequest Status = request_of s.session.settings.json f in
      let run : Prog Served = request_handled clock f r start in
      always_bind IsReply (IsClients clock) (λ t. Gives f s.session.who s.events t × (Stays start t × (t.dcp ≡ s.dcp))) (Here s.session.reader s) run (turns_handled clock)
      (always_both IsReply (IsClients clock) (Gives f s.session.who s.events) (λ t. Stays start t × (t.dcp ≡ s.dcp)) run (request_gives clock f r start d none)
      (always_both AnyReply AnyCall (Stays start) (λ t. t.dcp ≡ s.dcp) run (request_stays start clock f r start (record { who = refl; reader = refl; closed = refl })) (request_unhanded clock f r start)))
      (λ t h. served_by clock f s t t.session.awaited first later e h.0 h.1.0.reader (h.1.0.closed ∙ live) refl (h.1.1 ∙ free))

  takes_frame : (clock : ℕ) (s : Served) (f : Frame) → is_held s ≡ false → first_frame s.session.reader ≡ Some (Ok f)
      → ((u : Served) → u.session.reader ≡ drop (frame_len f) s.session.reader → Takes clock u) → Takes clock s
  unfolding frame_handled Takes
  takes_frame clock s f w first later live none free =
      subst (AlwaysFormed (IsClients clock) (Here s.session.reader s)) (sym (turns_frame clock s f w first))
      (frame_by clock f s (f.magic == RESPONSE) (is_dcp f.opcode) first later live none free refl refl)

  takes : (clock : ℕ) (s : Served) → Takes clock s
  unfolding Takes
  takes clock = by_turns
      (Takes clock)
      (λ s held live none free. absurd (both (sym held ∙ not_held s none free)))
      (λ s w e live none free. takes_done clock s s (turns_none clock s w e) none free (ends s None (ap frame_in e) (ap fault_in e) live))
      (λ s fault w e live none free. takes_done clock s (ended_at (Some fault) s) (turns_fault clock s fault w e) none free (ends s (Some fault) (ap frame_in e) (ap fault_in e) live))
      (λ s f w e later live none free. takes_frame clock s f w e later live none free)
    where
      both : true ≡ false → ⊥
      both e = cc

  -- what turns take of the bytes that are kept
  pub turns_take : (clock : ℕ) (s : Served) → s.session.closed ≡ false → s.session.awaited ≡ None → s.dcp ≡ None
      → AlwaysFormed (IsClients clock) (λ t. Took Tells s.session.reader t.session.awaited t.dcp s t) (turns_handled clock s)
  unfolding Takes Here
  turns_take clock s live none free = takes clock s live none free

  same_took : (bytes kept : List ℕ) (o : Option Awaited) (d : Option Frame) (s t : Served) → Took Tells bytes o d (with_bytes kept s) t → Took Tells bytes o d s t
  same_took bytes kept None None s t h = record { who = h.who; lines = h.lines; told = h.told; answered = h.answered; reader = h.reader; closed = h.closed }
  same_took bytes kept (Some a) None s t h = record {
    who = h.who;
    front = h.front;
    f = h.f;
    behind = h.behind;
    frames = h.frames;
    asked = h.asked;
    lines = h.lines;
    made = h.made;
    told = h.told;
    answered = h.answered;
    begun = h.begun;
    waiter = h.waiter;
    reader = h.reader;
    closed = h.closed;
  }
  same_took bytes kept None (Some f) s t h = record {
    who = h.who;
    front = h.front;
    behind = h.behind;
    frames = h.frames;
    asked = h.asked;
    dcp = h.dcp;
    lines = h.lines;
    told = h.told;
    answered = h.answered;
    reader = h.reader;
    closed = h.closed;
  }
  same_took bytes kept (Some a) (Some f) s t h = absurd h

  pub bytes_answered : (clock : ℕ) (piece : List ℕ) (s : Served) → s.session.closed ≡ false → s.session.awaited ≡ None → s.dcp ≡ None
      → AlwaysFormed (IsClients clock) (λ t. Took Tells (s.session.reader ++ piece) t.session.awaited t.dcp s t) (bytes_handled clock piece s)
  bytes_answered clock piece s live none free =
      let bytes : List ℕ = s.session.reader ++ piece in
      let start : Served = with_bytes bytes s in
      subst (AlwaysFormed (IsClients clock) (λ t. Took Tells bytes t.session.awaited t.dcp s t)) (sym (is_opened clock piece s live))
      (always_so IsReply (IsClients clock) (λ t. Took Tells bytes t.session.awaited t.dcp start t) (λ t. Took Tells bytes t.session.awaited t.dcp s t) (turns_handled clock start)
      (λ t took. same_took bytes bytes t.session.awaited t.dcp s t took) (turns_take clock start live none free))
