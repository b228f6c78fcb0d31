-- journals over whose disks no arm is, between lines
use Rattle.std.specs.Prelude.{◌==◌, if◌then◌else◌}
use Rattle.std.proofs.Common.{◌≡◌, ℕ, Bool, true, false, refl, ap, sym, ◌∙◌, subst, Option, Some, None}
use Rattle.std.proofs.lemmas.Bool.{eqb-true, eq-eqb}
use Rattle.vb_calls.specs.Jobs.{Job, Ended, Call, Request, after_job}
use Rattle.vb_calls.specs.Shelves.{Append, Ask, Keep, Look, Read, Shelf, Shelves, Stood, WasClosed, DiskFailed, Fate, after_fate, ask_at, shelf_step, fate_of, shelves_step, with_shelf_at}
use Rattle.vb_calls.specs.States.{States, states_step}
use Rattle.vb_disk.specs.declared.fuse.Fuse.{Fuse}
use Rattle.vb_disk.specs.declared.fuse.Fuse.TheVariants.{Off}
use Rattle.vb_journal.specs.UnderArms.{burnt_noting}
use Rattle.disk_journals.specs.Arms.{arm_over, armed_at, fuse_at, under}
use Rattle.node_world.specs.Arms.{PlainNode, fuse_or, lifted, placed, under_arm}
use Rattle.node_world.specs.Rests.{RestsIf}

shelf_again : (shelves : Shelves) (v : ℕ) (x : Shelf) → shelves v ≡ Some x → with_shelf_at shelves v x ≡ shelves
shelf_again shelves v x there = λ i u. by u (u == v) refl i
  where
    by : (u : ℕ) (b : Bool) → (u == v) ≡ b → (if b then Some x else shelves u) ≡ shelves u
    by u true e = sym there ∙ ap shelves (sym (eqb-true u v e))
    by u false e = refl

shelf_twice : (shelves : Shelves) (v : ℕ) (x y : Shelf) → with_shelf_at (with_shelf_at shelves v x) v y ≡ with_shelf_at shelves v y
shelf_twice shelves v x y = λ i u. by u (u == v) i
  where
    by : (u : ℕ) (b : Bool) → (if b then Some y else if b then Some x else shelves u) ≡ (if b then Some y else shelves u)
    by u true = refl
    by u false = refl

shelf_put : (shelves : Shelves) (v : ℕ) (x : Shelf) → with_shelf_at shelves v x v ≡ Some x
shelf_put shelves v x = ap (λ b. if b then Some x else shelves v) (eq-eqb v v refl)

-- an arm that is put over the disk of a vBucket and taken off again leaves a node that rests as it was
module _ (v : ℕ) (node : PlainNode) where
  abbrev S : Shelves
  S = node.shelves

  abbrev F : Fuse
  F = node.arm.fuse

  same_by : (T : Shelves) → arm_over S v F ≡ T → arm_over T v Off ≡ S → fuse_or F (fuse_at T v) ≡ F → lifted v (placed v node) ≡ node
  same_by T is back left =
      ap (λ (X : Shelves). record node { shelves = arm_over X v Off; arm = record node.arm { fuse = fuse_or F (fuse_at X v) } }) is ∙ (λ i. record node { shelves = back i; arm = record node.arm { fuse = left i } })

  pub same_arm : RestsIf (S v) → lifted v (placed v node) ≡ node
  same_arm rest = by (S v) refl rest
    where
      by : (o : Option Shelf) → S v ≡ o → RestsIf o → lifted v (placed v node) ≡ node
      by None e h = same_by S (ap (armed_at S v F) e) (ap (armed_at S v Off) e) (ap (λ (o : Option Shelf). fuse_or F (fuse_at (λ u. o) v)) e)
      by (Some x) e h =
          let T : Shelves = with_shelf_at S v (under F x) in
          let here : T v ≡ Some (under F x) = shelf_put S v (under F x) in
          same_by T (ap (armed_at S v F) e)
          (ap (armed_at T v Off) here ∙ shelf_twice S v (under F x) (under Off x) ∙ ap (λ f. with_shelf_at S v (under f x)) (sym h) ∙ shelf_again S v x e) (ap (λ (o : Option Shelf). fuse_or F (fuse_at (λ u. o) v)) here)

-- a request leaves what rests
fate_rests : (x : Shelf) (r : _) (fate : Fate) → x.fuse ≡ Off → (after_fate x r fate).fuse ≡ Off
fate_rests x r Stood h = ap burnt_noting h
fate_rests x r WasClosed h = h
fate_rests x r DiskFailed h = ap burnt_noting h

asked_rests : (x : Shelf) (ask : Ask) → x.fuse ≡ Off → (shelf_step x ask).0.fuse ≡ Off
asked_rests x (Append r) h = fate_rests x r (fate_of x) h
asked_rests x Read h = h
asked_rests x Look h = h
asked_rests x (Keep flush) h = h

pub ask_rests : (shelves : Shelves) (v u : ℕ) (ask : Ask) (o : Option Shelf) → shelves v ≡ o → RestsIf (shelves u) → RestsIf ((ask_at shelves v ask o).0 u)
ask_rests shelves v u ask None e h = h
ask_rests shelves v u ask (Some x) e h = by (u == v) refl
  where
    by : (b : Bool) → (u == v) ≡ b → RestsIf (if b then Some (shelf_step x ask).0 else shelves u)
    by true same = asked_rests x ask (subst RestsIf (ap shelves (eqb-true u v same) ∙ e) h)
    by false other = h

-- so does a job
pub job_rests : {A : Type 0} (job : Job A) (states : States) (shelves : Shelves) (u : ℕ) → RestsIf (shelves u) → RestsIf ((after_job job states shelves).0.1 u)
job_rests (Ended a) states shelves u h = h
job_rests (Call v call next) states shelves u h = job_rests (next (states_step states v call).1) (states_step states v call).0 shelves u h
job_rests (Request v ask next) states shelves u h = job_rests (next (shelves_step shelves v ask).1) states (shelves_step shelves v ask).0 u (ask_rests shelves v u ask (shelves v) refl h)

-- an arm over the disk of one vBucket is over no other, and is over none once it is taken off
over_other : (shelves : Shelves) (v u : ℕ) (f : Fuse) → (u == v) ≡ false → arm_over shelves v f u ≡ shelves u
over_other shelves v u f e = by (shelves v)
  where
    by : (o : Option Shelf) → armed_at shelves v f o u ≡ shelves u
    by None = refl
    by (Some x) = ap (λ b. if b then Some (under f x) else shelves u) e

over_here : (shelves : Shelves) (v : ℕ) → RestsIf (arm_over shelves v Off v)
over_here shelves v = by (shelves v) refl
  where
    by : (o : Option Shelf) → shelves v ≡ o → RestsIf (armed_at shelves v Off o v)
    by None e = subst RestsIf (sym e) tt
    by (Some x) e = subst RestsIf (sym (shelf_put shelves v (under Off x))) refl

-- what is done under an arm leaves what rests, where it does so itself
pub under_rests : {T : Type 0} (v : ℕ) (f : PlainNode → PlainNode × T) (node : PlainNode) (u : ℕ) → ((x : PlainNode) → RestsIf (x.shelves u) → RestsIf ((f x).0.shelves u)) → RestsIf (node.shelves u) → RestsIf ((under_arm v f node).0.shelves u)
under_rests v f node u keeps h = by (u == v) refl
  where
    by : (b : Bool) → (u == v) ≡ b → RestsIf ((under_arm v f node).0.shelves u)
    by true e = subst (λ k. RestsIf ((under_arm v f node).0.shelves k)) (sym (eqb-true u v e)) (over_here (f (placed v node)).0.shelves v)
    by false e = subst RestsIf (sym (over_other (f (placed v node)).0.shelves v u Off e)) (keeps (placed v node) (subst RestsIf (sym (over_other node.shelves v u node.arm.fuse e)) h))
