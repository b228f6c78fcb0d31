-- what the flusher, the readers and who looks are told
use Rattle.std.proofs.Common.{◌≡◌, ℕ, zero, suc, ◌+◌, ◌-◌, ◌<◌, Bool, true, false, cond, List, [], ◌∷◌, ◌++◌, length, map, refl, sym, ap, ◌∙◌, subst, arith, inl, inr, ◌⊎◌}
use Rattle.std.specs.Prelude.{◌==◌, if◌then◌else◌, IfOk, OnOk, Option, Some, None, Result, Ok, Err}
use Rattle.std.specs.declared.alloc.AllocError.{AllocError}
use Rattle.std.specs.List.{AllByRecursion, range_with_len}
use Rattle.std.proofs.lemmas.Bool.{eq-eqb}
use Rattle.vb_types.specs.Images.{Picture, nothing}
use Rattle.vb_types.specs.declared.role.Role.{Role}
use Rattle.vb_types.specs.declared.journal.Batch.{Batch}
use Rattle.vb_types.specs.declared.journal.Record.{Record}
use Rattle.vb_types.specs.declared.journal.Record.TheVariants as noted
use Rattle.vb_calls.specs.declared.calls.VbAnswer.{VbAnswer}
use Rattle.vb_calls.specs.declared.calls.VbAnswer.TheVariants as answer
use Rattle.vb_calls.specs.declared.calls.VbCall.{VbCall}
use Rattle.vb_calls.specs.declared.calls.VbCall.TheVariants as call
use Rattle.vb_calls.specs.declared.calls.VbReply.{VbReply}
use Rattle.vb_calls.specs.declared.journals.Flushed.{Flushed}
use Rattle.vb_calls.specs.declared.journals.Flushed.TheVariants as came
use Rattle.vb_calls.specs.AllSteps.{EndsBy, HasBatch, HearsWritten, IsSaved, IsTaken, Takes as TakesBatch, StepsOfAll}
use Rattle.vb_calls.specs.Plain.{Plain, plain_step}
use Rattle.vb_calls.specs.State.{image_in}
use Rattle.vb_calls.specs.Shelves.{Append, Ask, Fate, Flush, Got, Idle, Keep, Look, Out, Shelf, Shelves, Stood, WasClosed, DiskFailed, Written, ask_at, open_shelf, shelf_step, shelves_step, with_shelf_at}
use Rattle.vb_disk.specs.Memory.{MemStorage}
use Rattle.vb_disk.specs.Outcomes.{mem_left}
use Rattle.vb_disk.specs.declared.fuse.Fuse.TheVariants.{Off}
use Rattle.vb_disk.specs.declared.made.Outcome.{Outcome}
use Rattle.vb_disk.specs.declared.made.Outcome.TheVariants as outcome
use Rattle.vbucket.specs.Highs.{high_of}
use Rattle.vbucket.specs.Rows.{row_at}
use Rattle.vbucket.specs.Stands.{StandsFor}
use Rattle.disk_journals.specs.Asking.{FailsThere, disk_asks}
use Rattle.disk_journals.specs.Seen.{Seen, seen_at}
use Rattle.disk_journals.specs.Stands.{IsBlank, ShelvesStand, blank_under}
use Rattle.node_threads.specs.Seats.{Row, number_of, seat_step}
use Rattle.storm_model.specs.declared.lines.StormLine.{StormLine}
use Rattle.storm_model.specs.Limits.{is_storm}
use Rattle.storm_model.specs.Sums.{flushed, in_turn, line_of, read, storm_sum, storm_vb, taken_in, told_line, written_down}
use Rattle.storm_model.specs.Histories.{stores}
use Rattle.storm_seats.specs.Draining.{ReadBy, flushed_once, has_rows, is_taken}
use Rattle.storm_seats.specs.Gathering.{AllFrom, Stormed}
use Rattle.storm_seats.specs.Views.{StandsAt}
use Rattle.storm_seats.proofs.Drained.{dry, read_saved, reads_same, still}
use Rattle.storm_seats.proofs.Gathered.{line_stormed, stands_stormed}
use Rattle.storm_seats.proofs.Seats.{alone}
use Rattle.storm.specs.Ending.{EndsWith, IsAlone, IsQuiet, IsRead, Reads, is_done, mem_device}
use Rattle.storm.specs.Rows.{AllTwo, AreStormed, IsStormed}
use Rattle.storm.proofs.Turns.{Takes}

-- ---- one call

no_some : {A : Type 0} (x : A) (o : Option A) → o ≡ Some x → o ≡ None → ⊥
no_some x None a b = cc
no_some x (Some y) a b = cc

pub one_some : {A : Type 0} (x y : A) (o : Option A) → o ≡ Some x → o ≡ Some y → x ≡ y
one_some x y o a b = cc

-- the vBucket answers as it is
pub reads : (v : ℕ) (rows new : List Row) (vb : Plain) (c : VbCall) (reply : Option VbReply) → Reads v rows vb → seat_step rows v c reply new
    → (reply ≡ Some (plain_step vb c).1) × Reads v new (plain_step vb c).0
reads v rows new vb c None (x, at, s) (none, same) = absurd (no_some x (row_at number_of v rows) at none)
reads v rows new vb c (Some reply) (x, at, s) (y, z, there, called, with) =
    let same : x ≡ y = one_some x y (row_at number_of v rows) at there in
    let a = alone StandsFor high_of y.view z vb c reply (subst (λ (r : Row). StandsAt StandsFor r.view vb) same s) called in (
      ap Some a.0,
      (record y { view = z }, with v ∙ ap (λ b. if b then Some (record y { view = z }) else row_at number_of v rows) (eq-eqb v v refl), a.1),
    )

-- a seat alone
pub one_reads : (row : Row) (vb : Plain) → StandsAt StandsFor row.view vb → Reads row.number (row ∷ []) vb
one_reads row vb s = (row, ap (λ b. if b then Some row else None) (eq-eqb row.number row.number refl), s)

-- ---- what is looked at

high_in : VbAnswer → ℕ
high_in (answer.Stat windows items cursors saved high) = high
high_in other = 0

saved_in : VbAnswer → ℕ
saved_in (answer.Stat windows items cursors saved high) = saved
saved_in other = 0

image_of : VbAnswer → Picture
image_of (answer.Shown role uuid ss se at image) = image
image_of other = nothing

pub told_numbers : (vb : Plain) (o : Option VbReply) (r : VbReply) (windows items cursors saved high : ℕ) → o ≡ Some (plain_step vb call.Stat).1 → o ≡ Some r → r.answer ≡ answer.Stat windows items cursors saved high
    → (high ≡ vb.position.at) × (saved ≡ vb.saved)
unfolding high_in saved_in
told_numbers vb o r windows items cursors saved high e f is =
    let same : answer.Stat windows items cursors saved high ≡ (plain_step vb call.Stat).1.answer = sym is ∙ ap (λ (x : VbReply). x.answer) (one_some r (plain_step vb call.Stat).1 o f e) in
    (ap high_in same, ap saved_in same)

pub told_image : (vb : Plain) (o : Option VbReply) (r : VbReply) (role : Role) (uuid ss se at : ℕ) (image : Picture) → o ≡ Some (plain_step vb call.Show).1 → o ≡ Some r → r.answer ≡ answer.Shown role uuid ss se at image → image ≡ image_in vb
unfolding image_of
told_image vb o r role uuid ss se at image e f is = ap image_of (sym is ∙ ap (λ (x : VbReply). x.answer) (one_some r (plain_step vb call.Show).1 o f e))

pub if_ok : {A E : Type 0} (P Q : A → Type 0) (r : Result A E) → IfOk r P → ((x : A) → P x → Q x) → IfOk r Q
if_ok P Q (Ok x) p f = f x p
if_ok P Q (Err e) p f = tt

-- a reader's turn
pub next_read : (v id : ℕ) (rows new : List Row) (image after : Picture) (o : Option VbReply) (reply : VbReply) (result : Result Bool AllocError)
    → ((vb : Plain) → Reads v rows vb → (o ≡ Some (plain_step vb (call.Take id)).1) × Reads v new (plain_step vb (call.Take id)).0) → o ≡ Some reply
    → OnOk result (after ≡ taken_in reply.answer image) → IfOk result (λ more. more ≡ is_taken reply.answer) → IfOk result (λ more. Takes v id rows new image after more)
next_read v id rows new image after o reply (Err x) told is e f = tt
next_read v id rows new image after o reply (Ok more) told is e f = λ vb r.
    let t = told vb r in
    let same : reply.answer ≡ (plain_step vb (call.Take id)).1.answer = ap (λ (x : VbReply). x.answer) (one_some reply (plain_step vb (call.Take id)).1 o is t.0) in
    (t.1, e ∙ ap (λ a. taken_in a image) same, λ none. still id vb (sym (ap is_taken same) ∙ sym f ∙ none))

-- the line, from what was looked at, saved and read
pub line_told : (vb a b : Plain) (high saved : ℕ) (docs first second : Picture) → high ≡ vb.position.at → docs ≡ image_in vb → ReadBy 1 (flushed high vb) a → first ≡ read high 1 (flushed high vb) nothing
    → ReadBy 2 a b → second ≡ read high 2 a nothing → saved ≡ b.saved → told_line high saved docs first second ≡ line_of vb
line_told vb a b high saved docs first second h d one f two s sv =
    let kept : saved ≡ (flushed high vb).saved = sv ∙ read_saved 2 a b two ∙ read_saved 1 (flushed high vb) a one in
    let again : second ≡ read high 2 (flushed high vb) nothing = s ∙ reads_same 2 1 high (flushed high vb) a nothing one (λ e. absurd (omega (arith, e))) in
    (λ i. told_line high (kept i) (d i) (f i) (again i)) ∙ ap (λ n. told_line n (flushed n vb).saved (image_in vb) (read n 1 (flushed n vb) nothing) (read n 2 (flushed n vb) nothing)) h

-- ---- the flusher

new_disk : MemStorage
new_disk = record { bytes = 0 ∷ []; ready = []; past = [] }

new_left : (out : Outcome) → mem_left new_disk out ≡ Some (0 ∷ [])
unfolding new_disk
new_left outcome.Old = refl
new_left outcome.New = refl
new_left (outcome.Fill byte) = refl

pub new_quiet : (v : ℕ) (before after : List (Seen MemStorage)) (disk : MemStorage) → before ≡ [] → disk ≡ record { bytes = 0 ∷ []; ready = []; past = [] }
    → (IsBlank mem_device disk → (shelves : Shelves) → ShelvesStand mem_device before shelves → ShelvesStand mem_device after (with_shelf_at shelves v (blank_under Off))) → IsQuiet v after
unfolding new_disk
new_quiet v before after disk none is added = (
  with_shelf_at (λ w. None) v (open_shelf []),
  added (subst (IsBlank mem_device) (sym is) (record { told = refl; settled = new_left })) (λ w. None) (subst (λ b. ShelvesStand mem_device b (λ w. None)) (sym none) (λ w. tt)),
  ([], ap (λ b. if b then Some (open_shelf []) else None) (eq-eqb v v refl)),
)

-- the journal of an open shelf, after one request
never : (before now : Option (Seen MemStorage)) → FailsThere mem_device before now → ⊥
never None now fails = absurd fails
never (Some s) None fails = absurd fails
never (Some s) (Some t) fails = absurd (cc fails.untold)

asked : (v : ℕ) (kept left : List (Seen MemStorage)) (ask : Ask) (got : Got ask) (shelves : Shelves) → ShelvesStand mem_device kept shelves → disk_asks mem_device kept v ask got left
    → (got ≡ (shelves_step shelves v ask).1) × ShelvesStand mem_device left (shelves_step shelves v ask).0
unfolding disk_asks
asked v kept left ask got shelves stand d = elim (d.plainly shelves stand) [ inl plain ↦ plain | inr failed ↦ absurd (never _ _ failed.0) ]

-- the journal of vBucket v is this one
abbrev IsShelf : ℕ → List (Seen MemStorage) → Shelf → Type 0
IsShelf v kept shelf = (shelves : Shelves) × ShelvesStand mem_device kept shelves × (shelves v ≡ Some shelf)

asked_one : (v : ℕ) (kept left : List (Seen MemStorage)) (shelf : Shelf) (ask : Ask) (got : Got ask) → IsShelf v kept shelf → disk_asks mem_device kept v ask got left
    → (got ≡ (shelf_step shelf ask).1) × IsShelf v left (shelf_step shelf ask).0
asked_one v kept left shelf ask got (shelves, stand, at) d =
    let a = asked v kept left ask got shelves stand d in (
      a.0 ∙ ap (λ (o : Option Shelf). (ask_at shelves v ask o).1) at,
      ((shelves_step shelves v ask).0, a.1, ap (λ (o : Option Shelf). (ask_at shelves v ask o).0 v) at ∙ ap (λ b. if b then Some (shelf_step shelf ask).0 else shelves v) (eq-eqb v v refl)),
    )

abbrev Flushes : ℕ → Plain → List Row → List (Seen MemStorage) → Flushed → Type 0
Flushes v vb new left f = Reads v new (flushed_once vb) × IsQuiet v left × (is_done f ≡ false → flushed_once vb ≡ vb)

-- the append of a batch stands
saved : (v : ℕ) (book : List Record) (vb : Plain) (batch : Batch) (rows new : List Row) (kept left : List (Seen MemStorage)) (f : Flushed)
    → (plain_step vb call.FlushTake).1.answer ≡ answer.Rows batch → Reads v rows (plain_step vb call.FlushTake).0 → IsShelf v kept (open_shelf book)
    → IsTaken seat_step (disk_asks mem_device) v batch rows kept f new left → Flushes v vb new left f
saved v book vb batch rows new kept left f is r k t =
    let one = asked_one v kept t.mid (open_shelf book) (Keep (Out batch)) tt k t.out in
    let two = asked_one v t.mid t.saved.mid (record (open_shelf book) { flush = Out batch }) (Append (noted.Rows batch)) t.saved.fate one.1 t.saved.appended in
    let ended = subst (λ (fate : Fate). EndsBy seat_step (disk_asks mem_device) v batch fate rows t.saved.mid f new left) two.0 t.saved.ended in
    let three = asked_one v t.saved.mid ended.0 (record (open_shelf (noted.Rows batch ∷ book)) { flush = Out batch }) (Keep (Written batch.position.at)) tt two.1 ended.1 in
    let hears = ended.2 in
    let four = asked_one v ended.0 left (record (open_shelf (noted.Rows batch ∷ book)) { flush = Written batch.position.at }) (Keep Idle) tt three.1 hears.freed in
    let told = reads v rows new (plain_step vb call.FlushTake).0 (call.FlushDone batch.position.at) hears.reply r hears.told in (
      subst (Reads v new) (sym (ap (λ (a : VbAnswer). written_down a (plain_step vb call.FlushTake).0) is)) told.1,
      (four.1.0, four.1.1, (noted.Rows batch ∷ book, four.1.2)),
      λ e. absurd (cc (ap is_done hears.said, e)),
    )

-- one turn of the flusher
pub flushes : (v : ℕ) (vb : Plain) (rows new : List Row) (kept left : List (Seen MemStorage)) (f : Flushed) → StepsOfAll seat_step (disk_asks mem_device) v rows kept f new left → Reads v rows vb → IsQuiet v kept → Flushes v vb new left f
flushes v vb rows new kept left f s r (shelves, stand, (book, at)) =
    let look = asked_one v kept s.seen (open_shelf book) Look s.flush (shelves, stand, at) s.looked in
    let t = s.idle look.0 in
    let told = reads v rows t.mid vb call.FlushTake t.reply r t.asked in
    by book look.1 t told.0 told.1 (plain_step vb call.FlushTake).1.answer refl
  where
    by : (book : List Record) → IsShelf v s.seen (open_shelf book) → (t : TakesBatch seat_step (disk_asks mem_device) v rows s.seen f new left) → t.reply ≡ Some (plain_step vb call.FlushTake).1 → Reads v t.mid (plain_step vb call.FlushTake).0
        → (a : VbAnswer) → (plain_step vb call.FlushTake).1.answer ≡ a → Flushes v vb new left f
    by book k t reply r (answer.Rows batch) is = saved v book vb batch t.mid new s.seen left f is r k (t.some batch ((plain_step vb call.FlushTake).1, reply, is))
    by book k t reply r other is =
        let none = t.none (λ batch h. absurd (cc (ap (λ (x : VbReply). x.answer) (one_some (plain_step vb call.FlushTake).1 h.0 t.reply reply h.1), h.2, is))) in
        let same : flushed_once vb ≡ (plain_step vb call.FlushTake).0 = ap (λ (a : VbAnswer). written_down a (plain_step vb call.FlushTake).0) is in (
          subst (λ (rows : List Row). Reads v rows (flushed_once vb)) (sym none.untold) (subst (Reads v t.mid) (sym same) r),
          (k.0, subst (λ (l : List (Seen MemStorage)). ShelvesStand mem_device l k.0) (sym none.unasked) k.1, (book, k.2)),
          λ e. dry vb (ap has_rows is),
        )

-- ---- the lines

pub alone_each : (seed clients writes n : ℕ) (rows : List Row) → is_storm clients writes ≡ true → AllFrom (IsStormed seed clients writes) n rows → AllByRecursion IsAlone rows
alone_each seed clients writes n [] fits a = tt
alone_each seed clients writes n (r ∷ rs) fits a = (
  (storm_vb n (stores a.0.1.rest), stands_stormed StandsFor high_of seed clients writes n fits r.view a.0.1),
  alone_each seed clients writes (suc n) rs fits a.1,
)

lines_from : (seed clients writes n : ℕ) (rows : List Row) (lines : List StormLine) → is_storm clients writes ≡ true → AllFrom (IsStormed seed clients writes) n rows → AllTwo (λ n. EndsWith) n rows lines
    → lines ≡ map (λ v. line_of (storm_vb v (in_turn seed clients writes v))) (range_with_len n (length rows))
lines_from seed clients writes n [] [] fits a h = refl
lines_from seed clients writes n [] (l ∷ ls) fits a h = absurd h
lines_from seed clients writes n (r ∷ rs) [] fits a h = absurd h
lines_from seed clients writes n (r ∷ rs) (l ∷ ls) fits a h =
    let one : l ≡ line_of (storm_vb n (in_turn seed clients writes n)) =
    h.0 (storm_vb n (stores a.0.1.rest)) (stands_stormed StandsFor high_of seed clients writes n fits r.view a.0.1) ∙ line_stormed StandsFor high_of seed clients writes n fits r.view a.0.1 in
    let next : suc n ≡ n + 1 = omega arith in
    (λ i. one i ∷ (lines_from seed clients writes (suc n) rs ls fits a.1 h.1 ∙ ap (λ k. map (λ v. line_of (storm_vb v (in_turn seed clients writes v))) (range_with_len k (length rs))) next) i)

pub lines_are : (seed clients writes : ℕ) (rows : List Row) (lines : List StormLine) → is_storm clients writes ≡ true → AreStormed seed clients writes rows → AllTwo (λ n. EndsWith) 0 rows lines → lines ≡ storm_sum seed clients writes
lines_are seed clients writes rows lines fits a h = lines_from seed clients writes 0 rows lines fits a.1 h ∙ ap (λ k. map (λ v. line_of (storm_vb v (in_turn seed clients writes v))) (range_with_len 0 k)) a.0
