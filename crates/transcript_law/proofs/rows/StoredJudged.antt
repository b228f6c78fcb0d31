-- answers that stand behind sets and removals, and others that do not, judged by hand
use Rattle.std.specs.Prelude.{◌≡◌, ◌==◌, ◌∷◌, ◌++◌, ◌<◌, ◌^◌, if◌then◌else◌, ◌/◌, ◌%◌}
use Rattle.std.proofs.lemmas.Nat.{from_be_bytes-to_be_bytes_2, from_be_bytes-to_be_bytes_8}
use Rattle.std.specs.Int.{w16, w32, w64, to_be_bytes}
use Rattle.transcript_law.proofs.Words.{ℕ, Bool, true, false, List, [], length, refl, ap, sym, ◌∙◌, arith, Some, Change, Event, Frame, Lawful, one_change, one_set, change_line, spelling}
use Rattle.transcript_law.proofs.{lines.Stored.{next_behind}, rows.StoredRows.{made_stored}}
use Rattle.transcript_law.proofs.rows.Transcripts as transcripts
use Rattle.mcbp_frame.specs.Frames.{big_16_at, big_64_at, body_size}
use Rattle.mcbp_frame.specs.Spelling.{lengths}
use Rattle.mcbp_frame.specs.declared.frame.TheConstants.{FRAMED_REQUEST}
use Rattle.mcbp_kv.specs.Answers.{bare_answer, stored_answer}
use Rattle.mcbp_kv.specs.Replies.{reply_frame}
use Rattle.transcript_law.specs.{AnsweredWrites.{AllToldNext, IsToldNext}, OwnChanges.{given_cas}}
use Rattle.transcript_law.specs.StoredRows.{NoTick, abort_line, commit_line, one_set_told, prepare_line, refusal_told, removal_line, told_elsewhere}
use Rattle.transcript_law.specs.Transcripts.{set_told}
use Rattle.vb_events.specs.declared.event.Event.TheVariants as event
use Rattle.vb_types.specs.declared.change.Act.TheVariants as act
use Rattle.vb_types.specs.declared.status.Status.TheVariants.{KeyEexists}

-- ---- what the bytes of a frame tell

abbrev headed : Frame → List ℕ → List ℕ
headed f two =
    (f.magic ∷ f.opcode ∷ [] ++ two ++ length f.extras ∷ f.datatype ∷ [] ++ to_be_bytes w16 f.vb_or_status
    ++ to_be_bytes w32 (body_size f) ++ to_be_bytes w32 f.opaque ++ to_be_bytes w64 f.cas) ++ f.framing ++ f.extras ++ f.key ++ f.value

two_bytes : (framed : Bool) (n k : ℕ) → (a : ℕ) × (b : ℕ) × ((if framed then n ∷ k ∷ [] else to_be_bytes w16 k) ≡ a ∷ b ∷ [])
two_bytes true n k = (n, k, refl)
two_bytes false n k = (k / 256 % 256, k % 256, refl)

module _ (f : Frame) where
  abbrev two : (a : ℕ) × (b : ℕ) × (lengths f ≡ a ∷ b ∷ [])
  two = two_bytes (f.magic == FRAMED_REQUEST) (length f.framing) (length f.key)

  status_told : f.vb_or_status < 2 ^ 16 → big_16_at (spelling f) 6 ≡ f.vb_or_status
  unfolding spelling
  status_told small = ap (λ ls. big_16_at (headed f ls) 6) two.2 ∙ from_be_bytes-to_be_bytes_2 f.vb_or_status small

  cas_told : f.cas < 2 ^ 64 → big_64_at (spelling f) 16 ≡ f.cas
  unfolding spelling
  cas_told small = ap (λ ls. big_64_at (headed f ls) 16) two.2 ∙ from_be_bytes-to_be_bytes_8 f.cas small

-- ---- what stands next

-- no line, or another one
nothing_next : (n : ℕ) (change : Change) → IsToldNext n change [] → ⊥
nothing_next n change t = let e : [] ≡ event.Reply n t.client (spelling t.answer) ∷ t.more = t.next in cc

change_next : (n m v b : ℕ) (change other : Change) (behind : List Event) → IsToldNext n change (event.Changed m v b other ∷ behind) → ⊥
change_next n m v b change other behind t = let e : event.Changed m v b other ∷ behind ≡ event.Reply n t.client (spelling t.answer) ∷ t.more = t.next in cc

-- a frame
same_frame : (n m c d : ℕ) (x y : List ℕ) (xs ys : List Event) → event.Reply m d y ∷ ys ≡ event.Reply n c x ∷ xs → (m ≡ n) × (y ≡ x)
same_frame n m c d x y xs ys e = (cc, cc)

first_cas : (a : ℕ) → ◌≡◌ {A = _} (given_cas one_change.act) (Some a) → a ≡ 1
first_cas a e = let z : Some 1 ≡ Some a = e in cc

pub told : AllToldNext (change_line 0 ∷ set_told 1 ∷ removal_line ∷ set_told 2 ∷ [])
told = next_behind (change_line 0 ∷ set_told 1 ∷ []) (removal_line ∷ set_told 2 ∷ []) (made_stored 5 1 one_change refl) (made_stored 5 2 (record { seq = 2; key = 7 ∷ []; act = act.Remove 2 2 }) refl)

pub untold : AllToldNext (change_line 0 ∷ []) → ⊥
untold t = nothing_next 0 one_change (t.0 refl)

pub unremoved : AllToldNext (change_line 0 ∷ set_told 1 ∷ removal_line ∷ []) → ⊥
unremoved t = nothing_next 0 _ (t.1.0 refl)

pub before : AllToldNext (set_told 1 ∷ change_line 0 ∷ []) → ⊥
before t = nothing_next 0 one_change (t.0 refl)

pub later : AllToldNext (change_line 0 ∷ commit_line ∷ set_told 1 ∷ []) → ⊥
later t = change_next 0 0 0 5 one_change _ (set_told 1 ∷ []) (t.0 refl)

pub twice : AllToldNext (change_line 0 ∷ change_line 0 ∷ set_told 1 ∷ []) → ⊥
twice t = change_next 0 0 0 5 one_change one_change (set_told 1 ∷ []) (t.0 refl)

-- a frame with this status
pub refused : AllToldNext (change_line 0 ∷ refusal_told ∷ []) → ⊥
refused t =
    let n = t.0 refl in let g : Frame = reply_frame (bare_answer 1 KeyEexists 9) in
    let same = (same_frame 0 0 n.client 1 (spelling n.answer) (spelling g) n.more [] n.next).1 in
    let zero : n.answer.vb_or_status ≡ 0 = n.made in
    let e : g.vb_or_status ≡ n.answer.vb_or_status = sym (status_told g (omega arith)) ∙ ap (λ bytes. big_16_at bytes 6) same ∙ status_told n.answer (omega (arith, zero)) in
    let two : g.vb_or_status ≡ 0 = e ∙ zero in omega (arith, two)

pub cas : AllToldNext (change_line 0 ∷ set_told 2 ∷ []) → ⊥
cas t =
    let n = t.0 refl in let g : Frame = reply_frame (stored_answer 1 9 2 []) in
    let same = (same_frame 0 0 n.client 1 (spelling n.answer) (spelling g) n.more [] n.next).1 in
    let one : n.answer.cas ≡ 1 = first_cas n.answer.cas n.cas in
    let e : g.cas ≡ n.answer.cas = sym (cas_told g (omega arith)) ∙ ap (λ bytes. big_64_at bytes 16) same ∙ cas_told n.answer (omega (arith, one)) in
    let two : 2 ≡ 1 = e ∙ one in omega (arith, two)

pub elsewhere : AllToldNext (change_line 0 ∷ told_elsewhere ∷ []) → ⊥
elsewhere t = let n = t.0 refl in let e : 1 ≡ 0 = (same_frame 0 1 n.client 1 (spelling n.answer) _ n.more [] n.next).0 in omega (arith, e)

pub durable : AllToldNext (prepare_line ∷ commit_line ∷ abort_line ∷ [])
durable = (λ own. cc, (λ own. cc, (λ own. cc, tt)))

-- ---- by whole lines

pub right : Lawful one_set (one_set_told (change_line 0 ∷ set_told 1 ∷ []))
right = transcripts.right

pub unanswered : Lawful one_set (one_set_told (change_line 0 ∷ [])) → ⊥
unanswered l = untold l.1.1.1.0.9

pub ticked : NoTick (change_line 0 ∷ [])
ticked r l = untold l.0.9

pub ticked_told : NoTick (change_line 0 ∷ set_told 2 ∷ [])
ticked_told r l = cas l.0.9
