-- what a job's steps come to, where there is the vBucket that it calls and the journal that it asks
use Rattle.std.specs.Prelude.{◌≡◌, ◌==◌, ◌∷◌, if◌then◌else◌}
use Rattle.transcript_law.proofs.Words.{ℕ, true, false, refl, ap, ◌∙◌, Option, Some, eq-eqb, eqb-true, sym, Plain, States, with_vb_at, call_at, VbCall, VbReply, plain_step, Job, after_job}
use Rattle.vb_calls.specs.Jobs.{Call, Request}
use Rattle.vb_calls.specs.Shelves.{Append, Ask as Asked, DiskFailed, Fate, Got, Shelf, Shelves, Stood, WasClosed, after_fate, ask_at, shelf_step, with_shelf_at}
use Rattle.vb_disk.specs.declared.fuse.Fuse.TheVariants.{Off}
use Rattle.vb_journal.specs.UnderArms.{all_pass, burnt_noting}
use Rattle.vb_types.specs.declared.journal.Record.{Record}

-- what is put twice

pub put_over : (states : States) (v : ℕ) (a b : Plain) → with_vb_at (with_vb_at states v a) v b ≡ with_vb_at states v b
put_over states v a b = λ i q. (elim (q == v) as (λ k. (if k then Some b else (if k then Some a else states q)) ≡ (if k then Some b else states q)) [ true ↦ refl | false ↦ refl ]) i

pub shelf_over : (shelves : Shelves) (v : ℕ) (a b : Shelf) → with_shelf_at (with_shelf_at shelves v a) v b ≡ with_shelf_at shelves v b
shelf_over shelves v a b = λ i q. (elim (q == v) as (λ k. (if k then Some b else (if k then Some a else shelves q)) ≡ (if k then Some b else shelves q)) [ true ↦ refl | false ↦ refl ]) i

pub put_found : (states : States) (v : ℕ) (a : Plain) → with_vb_at states v a v ≡ Some a
put_found states v a = ap (λ k. if k then Some a else states v) (eq-eqb v v refl)

pub shelf_found : (shelves : Shelves) (v : ℕ) (a : Shelf) → with_shelf_at shelves v a v ≡ Some a
shelf_found shelves v a = ap (λ k. if k then Some a else shelves v) (eq-eqb v v refl)

-- a job's call, and what it asks of a journal

pub call_on : {A : Type 0} (states : States) (shelves : Shelves) (v : ℕ) (c : VbCall) (next : Option VbReply → Job A) (vb vb' : Plain) (reply : VbReply) → states v ≡ Some vb → plain_step vb c ≡ (vb', reply)
    → after_job (Call v c next) states shelves ≡ after_job (next (Some reply)) (with_vb_at states v vb') shelves
call_on states shelves v c next vb vb' reply known is = ap (λ o. let y = call_at states v c o in after_job (next y.1) y.0 shelves) known ∙ ap (λ y. after_job (next (Some y.1)) (with_vb_at states v y.0) shelves) is

pub ask_on : {A : Type 0} (states : States) (shelves : Shelves) (v : ℕ) (ask : Asked) (next : Got ask → Job A) (shelf shelf' : Shelf) (got : Got ask) → shelves v ≡ Some shelf → shelf_step shelf ask ≡ (shelf', got)
    → after_job (Request v ask next) states shelves ≡ after_job (next got) states (with_shelf_at shelves v shelf')
ask_on states shelves v ask next shelf shelf' got known is = ap (λ o. let y = ask_at shelves v ask o in after_job (next y.1) states y.0) known ∙ ap (λ y. after_job (next y.1) states (with_shelf_at shelves v y.0)) is

-- an append stands where none failed before and no arm is over the disk
pub append_stands : (shelf : Shelf) (what : Record) → shelf.is_closed ≡ false → shelf.fuse ≡ Off → shelf_step shelf (Append what) ≡ (record shelf { book = what ∷ shelf.book }, Stood)
append_stands shelf what opens unarmed =
    ap (λ b. came (if b then WasClosed else if all_pass shelf.fuse then Stood else DiskFailed)) opens
    ∙ ap (λ f. came (if all_pass f then Stood else DiskFailed)) unarmed
    ∙ ap (λ f. (record shelf { book = what ∷ shelf.book; fuse = burnt_noting f }, Stood)) unarmed
    ∙ ap (λ f. (record shelf { book = what ∷ shelf.book; fuse = f }, Stood)) (sym unarmed)
  where
    came : Fate → Shelf × Fate
    came fate = (after_fate shelf what fate, fate)

-- a journal that is put as it was
pub same_shelf : (shelves : Shelves) (v : ℕ) (shelf : Shelf) → shelves v ≡ Some shelf → (q : ℕ) → with_shelf_at shelves v shelf q ≡ shelves q
same_shelf shelves v shelf has q = elim (q == v) as (λ b. (q == v) ≡ b → (if b then Some shelf else shelves q) ≡ shelves q)
    [ true ↦ λ e. sym has ∙ ap shelves (sym (eqb-true q v e)) | false ↦ λ e. refl ] refl
