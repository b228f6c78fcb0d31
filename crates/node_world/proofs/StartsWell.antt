-- a node that starts, where its arm hits none of its calls
use Rattle.std.proofs.Common.{◌≡◌, ◌≤◌, ◌<◌, ℕ, zero, suc, ◌+◌, Bool, true, false, cond, List, [], ◌∷◌, ◌++◌, length, zip, find, refl, ap, ◌∙◌, subst, sym, arith, Option, Some, None, is_some, option_map}
use Rattle.std.specs.Prelude.{◌==◌, ◌*◌, ◌-◌, ◌&&◌, not, if◌then◌else◌}
use Rattle.std.proofs.lemmas.Bool.{eq-eqb, eqb-true}
use Rattle.std.proofs.lemmas.Bool.Decides.{nat_tests}
use Rattle.disk_journals.specs.Arms.{arm_over, armed_at, fuse_at, opens_all, under}
use Rattle.disk_journals.specs.Books.{Book, opened_shelf, opened_shelves}
use Rattle.vb_calls.specs.Flushes.{is_refusal, log_of_reply, note_role_job, role_job, role_told_job, wrote_of}
use Rattle.vb_calls.specs.Jobs.{Call, Ended, Job, Request, after_job, bind_job}
use Rattle.vb_calls.specs.Shelves.{Append, Ask, DiskFailed, Shelf, Shelves, Stood, WasClosed, after_fate, ask_at, shelf_step, fate_of, shelves_step, with_shelf_at}
use Rattle.vb_calls.specs.States.{States, states_step}
use Rattle.vb_calls.specs.declared.calls.VbCall.TheVariants as call
use Rattle.vb_calls.specs.declared.calls.VbReply.{VbReply}
use Rattle.vb_calls.specs.declared.journals.Wrote.{Wrote}
use Rattle.vb_calls.specs.declared.journals.Wrote.TheVariants as wrote
use Rattle.vb_disk.specs.Arms.{burnt, burnt_by, hits}
use Rattle.vb_disk.specs.declared.fuse.Fuse.{Fuse}
use Rattle.vb_disk.specs.declared.fuse.Fuse.TheVariants.{Off, Stop, Fail}
use Rattle.vb_journal.specs.UnderArms.{all_pass, both_pass, burnt_both, burnt_noting}
use Rattle.vb_events.specs.declared.event.Answer.TheVariants as answer
use Rattle.vb_types.specs.declared.journal.Record.{Record}
use Rattle.vb_types.specs.declared.journal.Record.TheVariants.{State}
use Rattle.vb_types.specs.declared.role.Role.TheVariants as role
use Rattle.node_core.specs.Admin.{noted_answer}
use Rattle.node_core.specs.Flushing.{FlushResult}
use Rattle.node_core.specs.Loading.{active_in, active_ones, start_job, start_result, starts_of, was_active}
use Rattle.node_world.specs.declared.arm.Arm.{Arm}
use Rattle.node_world.specs.declared.arm.Fired.TheVariants as fired
use Rattle.node_world.specs.declared.told.Told.{Told}
use Rattle.node_world.specs.Arms.{PlainNode, fired_by, fuse_or, placed}
use Rattle.node_world.specs.Causes.{LiesBeyond}
use Rattle.node_world.specs.Nodes.{done}
use Rattle.node_world.specs.Pairing.{Each}
use Rattle.node_world.specs.Power.{burnt_arm, first_no, loaded_node, start_one, started_by, starts_from}
use Rattle.node_world.proofs.Unfired.{append_burns, append_stands, left_alone, left_burnt, over_is}

-- ---- arms that lie beyond calls

fewer : (a m : ℕ) (f : Fuse) → m ≤ a → LiesBeyond a f → LiesBeyond m f
fewer a m Off l far = tt
fewer a m (Stop k) l far = let g : a < k = far in let z : m < k = omega (arith, l, g) in z
fewer a m (Fail k) l far = let g : a < k = far in let z : m < k = omega (arith, l, g) in z

-- the next call is not hit, and the arm lies beyond the others
beyond_one : (a m : ℕ) (f : Fuse) → m + 1 ≤ a → LiesBeyond a f → (hits f ≡ false) × LiesBeyond m (burnt f)
beyond_one a m Off l far = (refl, tt)
beyond_one a m (Stop k) l far =
    let g : a < k = far in
    let later : (k == 1) ≡ false = grind (arith, nat_tests) in
    let z : m < k - 1 = omega (arith, l, g) in
    (later, subst (λ b. LiesBeyond m (if b then Off else Stop (k - 1))) (sym later) z)
beyond_one a m (Fail k) l far =
    let g : a < k = far in
    let later : (k == 1) ≡ false = grind (arith, nat_tests) in
    let z : m < k - 1 = omega (arith, l, g) in
    (later, subst (λ b. LiesBeyond m (if b then Off else Fail (k - 1))) (sym later) z)

-- so are the four of an append
beyond_four : (a m : ℕ) (f : Fuse) → m + 4 ≤ a → LiesBeyond a f → (all_pass f ≡ true) × LiesBeyond m (burnt_noting f)
beyond_four a m f l far =
    let one = beyond_one a (m + 3) f (omega (arith, l)) far in
    let two = beyond_one (m + 3) (m + 2) (burnt f) (omega arith) one.1 in
    let g : Fuse = burnt (burnt f) in
    let three = beyond_one (m + 2) (m + 1) g (omega arith) two.1 in
    let four = beyond_one (m + 1) m (burnt g) (omega arith) three.1 in
    let first : both_pass f ≡ true = λ i. not (one.0 i) && not (two.0 i) in
    let between : burnt_both f ≡ g = ap (λ b. if b then burnt f else burnt (burnt f)) one.0 in
    let second : both_pass (burnt_both f) ≡ true = ap both_pass between ∙ (λ i. not (three.0 i) && not (four.0 i)) in
    let left : burnt_noting f ≡ burnt (burnt g) = ap (λ b. if b then burnt_both (burnt_both f) else burnt_both f) first ∙ ap burnt_both between ∙ ap (λ b. if b then burnt g else burnt (burnt g)) three.0 in
    ((λ i. first i && second i), subst (LiesBeyond m) (sym left) four.1)

-- and so many openings
pub opens_beyond : (count a m : ℕ) (f : Fuse) → count + m ≤ a → LiesBeyond a f → (opens_all f count ≡ true) × LiesBeyond m (burnt_by count f)
opens_beyond zero a m f l far = (refl, fewer a m f (omega (arith, l)) far)
opens_beyond (suc count) a m f l far =
    let one = beyond_one a (count + m) f (omega (arith, l)) far in
    let rest = opens_beyond count (count + m) m (burnt f) (omega arith) one.1 in
    (ap (λ b. if b then false else opens_all (burnt f) count) one.0 ∙ rest.0, rest.1)

-- ---- open journals over which no arm is

pub record IsOpen (x : Shelf) : Type 0 where
  pub unfailed : x.is_closed ≡ false
  pub unarmed : x.fuse ≡ Off

abbrev pub OpenIf : Option Shelf → Type 0
OpenIf None = Unit {0}
OpenIf (Some x) = IsOpen x

-- open, and with no arm over it unless it is the one at v
abbrev OpenBut : ℕ → ℕ → Option Shelf → Type 0
OpenBut v u None = Unit {0}
OpenBut v u (Some x) = (x.is_closed ≡ false) × ((u ≡ v → ⊥) → x.fuse ≡ Off)

open_but : (v u : ℕ) (o : Option Shelf) → OpenIf o → OpenBut v u o
open_but v u None h = tt
open_but v u (Some x) h = (h.unfailed, λ ne. h.unarmed)

-- without the one at v
open_all : (v u : ℕ) (o : Option Shelf) → (u ≡ v → ⊥) → OpenBut v u o → OpenIf o
open_all v u None ne h = tt
open_all v u (Some x) ne h = record { unfailed = h.0; unarmed = h.1 ne }

not_one : (u v : ℕ) → (u == v) ≡ false → u ≡ v → ⊥
not_one u v e same = let z : true ≡ false = sym (eq-eqb u v same) ∙ e in cc

-- another journal at v, which is open
put_but : (shelves : Shelves) (v : ℕ) (x : Shelf) → x.is_closed ≡ false → ((u : ℕ) → OpenBut v u (shelves u)) → (u : ℕ) → OpenBut v u (with_shelf_at shelves v x u)
put_but shelves v x h all u = by (u == v) refl
  where
    by : (b : Bool) → (u == v) ≡ b → OpenBut v u (if b then Some x else shelves u)
    by true same = (h, λ ne. absurd (ne (eqb-true u v same)))
    by false other = all u

-- the arm is taken off the one at v
lifted_open : (shelves : Shelves) (v : ℕ) → ((u : ℕ) → OpenBut v u (shelves u)) → (u : ℕ) → OpenIf (arm_over shelves v Off u)
lifted_open shelves v all u = by (shelves v) refl (u == v) refl
  where
    by : (o : Option Shelf) → shelves v ≡ o → (b : Bool) → (u == v) ≡ b → OpenIf (armed_at shelves v Off o u)
    by None e true same = subst OpenIf (sym (ap shelves (eqb-true u v same) ∙ e)) tt
    by None e false other = open_all v u (shelves u) (not_one u v other) (all u)
    by (Some x) e true same =
        let own : OpenBut v v (Some x) = subst (OpenBut v v) e (all v) in
        subst (λ b. OpenIf (if b then Some (under Off x) else shelves u)) (sym same) (record { unfailed = own.0; unarmed = refl })
    by (Some x) e false other = subst (λ b. OpenIf (if b then Some (under Off x) else shelves u)) (sym other) (open_all v u (shelves u) (not_one u v other) (all u))

-- what is asked of journals makes none
put_some : (shelves : Shelves) (v u : ℕ) (x y : Shelf) → shelves v ≡ Some x → is_some (with_shelf_at shelves v y u) ≡ is_some (shelves u)
put_some shelves v u x y e = by (u == v) refl
  where
    by : (b : Bool) → (u == v) ≡ b → is_some (if b then Some y else shelves u) ≡ is_some (shelves u)
    by true same = sym (ap is_some (ap shelves (eqb-true u v same) ∙ e))
    by false other = refl

ask_some : (shelves : Shelves) (v u : ℕ) (ask : Ask) (o : Option Shelf) → shelves v ≡ o → is_some ((ask_at shelves v ask o).0 u) ≡ is_some (shelves u)
ask_some shelves v u ask None e = refl
ask_some shelves v u ask (Some x) e = put_some shelves v u x (shelf_step x ask).0 e

job_some : {A : Type 0} (job : Job A) (states : States) (shelves : Shelves) (u : ℕ) → is_some ((after_job job states shelves).0.1 u) ≡ is_some (shelves u)
job_some (Ended a) states shelves u = refl
job_some (Call v asked next) states shelves u = job_some (next (states_step states v asked).1) (states_step states v asked).0 shelves u
job_some (Request v ask next) states shelves u = job_some (next (shelves_step shelves v ask).1) states (shelves_step shelves v ask).0 u ∙ ask_some shelves v u ask (shelves v) refl

over_some : (shelves : Shelves) (v u : ℕ) (f : Fuse) → is_some (arm_over shelves v f u) ≡ is_some (shelves u)
over_some shelves v u f = by (shelves v) refl
  where
    by : (o : Option Shelf) → shelves v ≡ o → is_some (armed_at shelves v f o u) ≡ is_some (shelves u)
    by None e = refl
    by (Some x) e = put_some shelves v u x (under f x) e

start_some : (n v uuid : ℕ) (x : PlainNode) (u : ℕ) → is_some ((start_one n (v, uuid) x).0.shelves u) ≡ is_some (x.shelves u)
start_some n v uuid x u =
    over_some (after_job (start_job n v uuid) x.vbs (placed v x).shelves).0.1 v u Off ∙ job_some (start_job n v uuid) x.vbs (placed v x).shelves u ∙ over_some x.shelves v u x.arm.fuse

-- ---- vBuckets that take their new branches

-- all journals of a node are open, and its arm lies beyond so many calls
record Ready (calls : ℕ) (x : PlainNode) : Type 0 where
  shelves : (u : ℕ) → OpenIf (x.shelves u)
  beyond : LiesBeyond calls x.arm.fuse

module _ (n v uuid : ℕ) (x : PlainNode) (calls left : ℕ) (more : left + 4 ≤ calls) (ready : Ready calls x) (y : Shelf) (there : x.shelves v ≡ Some y) where
  abbrev f : Fuse
  f = x.arm.fuse

  abbrev S : Shelves
  S = (placed v x).shelves

  own : IsOpen y
  own = subst OpenIf there (ready.shelves v)

  here : S v ≡ Some (under f y)
  here = over_is x.shelves v f y there

  armed_but : (u : ℕ) → OpenBut v u (S u)
  armed_but u = subst (λ o. OpenBut v u (armed_at x.shelves v f o u)) (sym there) (put_but x.shelves v (under f y) own.unfailed (λ w. open_but v w (x.shelves w) (ready.shelves w)) u)

  -- its record stands
  four : (all_pass f ≡ true) × LiesBeyond left (burnt_noting f)
  four = beyond_four calls left f more ready.beyond

  sound : fate_of (under f y) ≡ Stood
  sound = ap (λ b. if b then WasClosed else if all_pass f then Stood else DiskFailed) own.unfailed ∙ ap (λ b. if b then Stood else DiskFailed) four.0

  -- what a start comes to: the arm did not fire, and lies beyond the calls that are left
  record Came (z : (States × Shelves) × FlushResult) : Type 0 where
    open_but_one : (u : ℕ) → OpenBut v u (z.0.1 u)
    quiet : fired_by f (fuse_or f (fuse_at z.0.1 v)) ≡ fired.No
    beyond : LiesBeyond left (fuse_or f (fuse_at z.0.1 v))
    ok : z.1.answer ≡ answer.Ok

  none_appended : (states : States) (told : FlushResult) → told.answer ≡ answer.Ok → Came ((states, S), told)
  none_appended states told ok = record {
    open_but_one = armed_but;
    quiet = left_alone f x.shelves v;
    beyond = subst (λ (o : Option Shelf). LiesBeyond left (fuse_or f (option_map (λ (s : Shelf). s.fuse) o))) (sym here) (fewer calls left f (omega (arith, more)) ready.beyond);
    ok = ok;
  }

  appended_but : (r : Record) (u : ℕ) → OpenBut v u ((shelves_step S v (Append r)).0 u)
  appended_but r u = subst (λ o. OpenBut v u ((ask_at S v (Append r) o).0 u)) (sym here)
      (put_but S v (after_fate (under f y) r (fate_of (under f y))) (subst (λ fate. (after_fate (under f y) r fate).is_closed ≡ false) (sym sound) own.unfailed) armed_but u)

  one_appended : (states : States) (r : Record) (told : FlushResult) → told.answer ≡ answer.Ok → Came ((states, (shelves_step S v (Append r)).0), told)
  one_appended states r told ok =
      let burns = append_burns S v r (under f y) here sound in record {
        open_but_one = appended_but r;
        quiet = left_burnt f (fuse_at (shelves_step S v (Append r)).0 v) burns four.0;
        beyond = subst (λ o. LiesBeyond left (fuse_or f o)) (sym burns) four.1;
        ok = ok;
      }

  abbrev states : States
  states = (states_step x.vbs v (call.Promote uuid)).0

  abbrev behind : Job (Option VbReply × Wrote) → (States × Shelves) × FlushResult
  behind job = after_job (bind_job job (λ made. Ended (start_result n v made))) states S

  came : Came (after_job (start_job n v uuid) x.vbs S)
  unfolding role_job
  came = by (states_step x.vbs v (call.Promote uuid)).1
    where
      made : (reply : VbReply) (b : Bool) → Came (behind (if b then Ended (Some reply, wrote.NotAsked) else Call v call.Log (note_role_job v role.Active reply)))
      made reply true = none_appended states (start_result n v (Some reply, wrote.NotAsked)) refl
      made reply false =
          let logged = states_step states v call.Log in
          let r : Record = State role.Active (log_of_reply logged.1) in
          one_appended logged.0 r (start_result n v (Some reply, wrote_of (shelves_step S v (Append r)).1)) (ap (λ fate. noted_answer (wrote_of fate) answer.Ok) (append_stands S v r (under f y) here sound))

      by : (o : Option VbReply) → Came (behind (role_told_job v (call.Promote uuid) o))
      by None = none_appended states (start_result n v (None, wrote.NotAsked)) refl
      by (Some reply) = made reply (is_refusal reply.answer)

  -- the node is ready for the next one
  start_ready : Ready left (start_one n (v, uuid) x).0
  start_ready = record { shelves = λ u. lifted_open (after_job (start_job n v uuid) x.vbs S).0.1 v came.open_but_one u; beyond = came.beyond }

-- members of which it is so, since something else is
each_map : {X : Type 0} (P Q : X → Type 0) → ((x : X) → P x → Q x) → (xs : List X) → Each P xs → Each Q xs
each_map P Q f [] h = tt
each_map P Q f (x ∷ xs) h = (f x h.0, each_map P Q f xs h.1)

each_append : {X : Type 0} (P : X → Type 0) (xs ys : List X) → Each P xs → Each P ys → Each P (xs ++ ys)
each_append P [] ys h g = g
each_append P (x ∷ xs) ys h g = (h.0, each_append P xs ys h.1 g)

each_zip : (P : ℕ → Type 0) (xs ys : List ℕ) → Each P xs → Each (λ (s : ℕ × ℕ). P s.0) (zip xs ys)
each_zip P [] ys h = tt
each_zip P (x ∷ xs) [] h = tt
each_zip P (x ∷ xs) (y ∷ ys) h = (h.0, each_zip P xs ys h.1)

-- no more start than there are
zip_short : (xs ys : List ℕ) → length (zip xs ys) ≤ length xs
zip_short [] ys = omega arith
zip_short (x ∷ xs) [] = omega arith
zip_short (x ∷ xs) (y ∷ ys) = let rest = zip_short xs ys in omega (arith, rest)

-- all start well where each has a journal
starts_ok : (n : ℕ) (starts : List (ℕ × ℕ)) (x : PlainNode) (told : Told) (calls : ℕ) → 4 * length starts ≤ calls → told.answer ≡ answer.Ok → Ready calls x → Each (λ (s : ℕ × ℕ). is_some (x.shelves s.0) ≡ true) starts
    → (starts_from n starts (x, told)).1.answer ≡ answer.Ok
starts_ok n [] x told calls many ok ready there = ok
starts_ok n ((v, uuid) ∷ starts) x told calls many ok ready there = by (x.shelves v) refl there.0 (λ told' ok' ready'. starts_ok n starts (start_one n (v, uuid) x).0 told' (4 * length starts) (omega arith) ok' ready' still)
  where
    still : Each (λ (s : ℕ × ℕ). is_some ((start_one n (v, uuid) x).0.shelves s.0) ≡ true) starts
    still = each_map (λ (s : ℕ × ℕ). is_some (x.shelves s.0) ≡ true) (λ (s : ℕ × ℕ). is_some ((start_one n (v, uuid) x).0.shelves s.0) ≡ true) (λ s e. start_some n v uuid x s.0 ∙ e) starts there.1

    by : (o : Option Shelf) → x.shelves v ≡ o → is_some o ≡ true → ((told' : Told) → told'.answer ≡ answer.Ok → Ready (4 * length starts) (start_one n (v, uuid) x).0 → (starts_from n starts ((start_one n (v, uuid) x).0, told')).1.answer ≡ answer.Ok)
        → (starts_from n ((v, uuid) ∷ starts) (x, told)).1.answer ≡ answer.Ok
    by None e some rest = cc
    by (Some s) e some rest =
        let four : 4 * length starts + 4 ≤ calls = omega (arith, many) in
        let one = came n v uuid x calls (4 * length starts) four ready s e in
        ap (λ f. (started_by n x.arm f (start_one n (v, uuid) x).1 told (start_one n (v, uuid) x).0 (starts_from n starts)).1.answer) one.quiet
        ∙ rest (record { events = told.events ++ (start_one n (v, uuid) x).1.events; answer = first_no told.answer (start_one n (v, uuid) x).1.answer }) (ap (λ a. first_no a (start_one n (v, uuid) x).1.answer) ok ∙ one.ok) (start_ready n v uuid x calls (4 * length starts) four ready s e)

-- ---- a node that was loaded

opened_open : (books : List Book) (u : ℕ) → OpenIf (opened_shelves books u)
opened_open books u = by (find (λ (b : Book). b.0 == u) books)
  where
    by : (o : Option Book) → OpenIf (option_map opened_shelf o)
    by None = tt
    by (Some book) = record { unfailed = refl; unarmed = refl }

abbrev HasBook : List Book → ℕ → Type 0
HasBook books v = is_some (find (λ (b : Book). b.0 == v) books) ≡ true

-- one that was active has records
actives_there : (books : List Book) → Each (HasBook books) (active_ones books)
actives_there [] = tt
actives_there (b ∷ bs) = each_append (HasBook (b ∷ bs)) (active_in b) (active_ones bs) (own (was_active b)) (each_map (HasBook bs) (HasBook (b ∷ bs)) (λ v e. more v (b.0 == v) e) (active_ones bs) (actives_there bs))
  where
    own : (a : Bool) → Each (HasBook (b ∷ bs)) (if a then b.0 ∷ [] else [])
    own true = (ap (λ e. is_some (cond e (Some b) (find (λ (c : Book). c.0 == b.0) bs))) (eq-eqb b.0 b.0 refl), tt)
    own false = tt

    more : (v : ℕ) (e : Bool) → is_some (find (λ (c : Book). c.0 == v) bs) ≡ true → is_some (cond e (Some b) (find (λ (c : Book). c.0 == v) bs)) ≡ true
    more v true h = refl
    more v false h = h

pub loaded_starts : (n : ℕ) (uuids : List ℕ) (books : List Book) (arm : Arm) → LiesBeyond (length books + 4 * length (active_ones books)) arm.fuse
    → (starts_from n (starts_of books uuids) (loaded_node n books (burnt_arm (length books) arm), done [])).1.answer ≡ answer.Ok
loaded_starts n uuids books arm far =
    let short : length (starts_of books uuids) ≤ length (active_ones books) = zip_short (active_ones books) uuids in
    starts_ok n (starts_of books uuids) (loaded_node n books (burnt_arm (length books) arm)) (done []) (4 * length (active_ones books)) (omega (arith, short)) refl
    (record { shelves = opened_open books; beyond = (opens_beyond (length books) (length books + 4 * length (active_ones books)) (4 * length (active_ones books)) arm.fuse (omega arith) far).1 })
    (each_zip (λ v. is_some (opened_shelves books v) ≡ true) (active_ones books) uuids
    (each_map (HasBook books) (λ v. is_some (opened_shelves books v) ≡ true) (λ v e. mapped (find (λ (b : Book). b.0 == v) books) ∙ e) (active_ones books) (actives_there books)))
  where
    mapped : (o : Option Book) → is_some (option_map opened_shelf o) ≡ is_some o
    mapped None = refl
    mapped (Some b) = refl
