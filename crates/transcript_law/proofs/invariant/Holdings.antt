-- a vBucket agrees with what the lines tell of it, and with its member of the cluster
use Rattle.std.specs.Prelude.{◌≡◌, ◌<◌, ◌≤◌, ◌^◌, ◌++◌}
use Rattle.transcript_law.proofs.Words.{ℕ, Bool, true, false, List, [], Option, Some, None, is_some, All, Act, Change, Doc, Position, LogEntry, IsKey, IsValue, last_seq, image_of, Rises, Branch, HoldsAt}
use Rattle.transcript_law.proofs.{Words.{Member, Plain, is_active, Sound, PlainWorld, vb_in, Chronicle, known_history, Role, Picture}, invariant.Trees.{IsTold}, invariant.Wholes.{WholeTo, Spanned}, invariant.Lefts.{LeftUpTo}}
use Rattle.transcript_law.proofs.Words.{refl, sym, ap, ◌∙◌, subst, fold, applied, nothing, image_in}
use Rattle.transcript_law.specs.{Chronicles.{ArmKnown, CountsKnown, DiskKnown}, Lawfulness.{IsMadeAt, IsUp}, Majorities.{HasAcknowledged}}
use Rattle.durability.specs.{Chains.{Members}, Laws.{Waits}, Outstanding.{acked}, declared.waiting.Waiting.{Waiting}}
use Rattle.branch_model.proofs.Lists.{rises_append}
use Rattle.std.proofs.lemmas.List.Sums.{fold-append}
use Rattle.transcript_law.proofs.invariant.Bounded.{Weighs}
use Rattle.vb_types.specs.declared.change.Act.TheVariants.{Abort, Commit, Prepare, Remove, Set}

-- the vBucket v of the node n
abbrev pub vb_of : PlainWorld → ℕ → ℕ → Option Plain
vb_of w n v = vb_in (w.nodes n) v

-- numbers of a document that have room in their fields
pub record DocFits (doc : Doc) : Type 0 where
  pub value : IsValue doc.value
  pub cas : doc.cas < 2 ^ 64
  pub rev : doc.rev < 2 ^ 64
  pub flags : doc.flags < 2 ^ 32
  pub expiry : doc.expiry < 2 ^ 32

-- an act whose document and numbers have room in their fields; a prepare of a removal has no value
abbrev pub ActFits : Act → Type 0
ActFits (Set doc) = DocFits doc
ActFits (Remove cas rev) = (cas < 2 ^ 64) × (rev < 2 ^ 64)
ActFits (Prepare level doc deleted) = DocFits doc × (deleted ≡ true → doc.value ≡ [])
ActFits (Commit prepared doc deleted) = (prepared < 2 ^ 64) × DocFits doc
ActFits (Abort prepared) = prepared < 2 ^ 64

-- a change that a message tells
pub record ChangeFits (c : Change) : Type 0 where
  pub seq : c.seq < 2 ^ 64
  pub key : IsKey c.key
  pub act : ActFits c.act

-- a member of the cluster is the vBucket
pub record MemberAgrees (m : Member) (vb : Plain) : Type 0 where
  pub active : m.active ≡ is_active vb.role
  pub position : m.position ≡ vb.position
  pub log : m.log ≡ vb.log

-- a member's branch: the one that the lines tell, or 0, the root that has no changes
abbrev pub BranchAgrees : Option ℕ → ℕ → Type 0
BranchAgrees None br = br ≡ 0
BranchAgrees (Some u) br = br ≡ u

-- a vBucket that takes writes is on a branch that the lines tell, and is its writer
pub record IsWriter (tree : List Branch) (last : Option (ℕ × ℕ)) (on : Option ℕ) (n v br : ℕ) : Type 0 where
  pub branch : on ≡ Some br
  pub is_told : IsTold tree br
  pub writer : last ≡ Some (n, v)
  pub named : br ≡ 0 → ⊥

abbrev pub IsWriterIf : Bool → List Branch → Option (ℕ × ℕ) → Option ℕ → ℕ → ℕ → ℕ → Type 0
IsWriterIf false tree last on n v br = Unit {0}
IsWriterIf true tree last on n v br = IsWriter tree last on n v br

abbrev pub Writes : Chronicle → ℕ → ℕ → ℕ → Type 0
Writes r n v br = IsWriter r.tree (r.writer_of br) (r.branch_at n v) n v br

abbrev pub WritesIf : Bool → Chronicle → ℕ → ℕ → ℕ → Type 0
WritesIf b r n v br = IsWriterIf b r.tree (r.writer_of br) (r.branch_at n v) n v br

-- an entry of a failover log whose numbers have room in their fields
abbrev pub EntryFits : LogEntry → Type 0
EntryFits e = (e.uuid < 2 ^ 64) × (e.seq < 2 ^ 64)

-- the history of the branch that a vBucket is on, as the lines tell it
abbrev pub own_history : Chronicle → ℕ → ℕ → List Change
own_history r n v = known_history r.tree (r.branch_at n v)

-- what the lines tell of a node: its arm, and its clock
pub record NodeKnown : Type 0 where
  pub arm : ArmKnown
  pub clock : ℕ

abbrev pub node_known : Chronicle → ℕ → NodeKnown
node_known r n = record { arm = r.arm_at n; clock = r.clock_at n }

-- what the lines tell of what a vBucket holds
pub record VbContents : Type 0 where
  pub held : List Change
  pub branch : Option ℕ
  pub log : Option (List LogEntry)
  pub snap : Option (ℕ × ℕ)

abbrev pub vb_contents : Chronicle → ℕ → ℕ → VbContents
vb_contents r n v = record { held = r.held n v; branch = r.branch_at n v; log = r.log_at n v; snap = r.snap_at n v }

-- and of the vBucket
pub record VbRow : Type 0 where
  pub role : Option (Option Role)
  pub opened : Bool
  pub contents : VbContents
  pub disk : DiskKnown
  pub counts : CountsKnown

abbrev pub vb_row : Chronicle → ℕ → ℕ → VbRow
vb_row r n v = record { role = r.role_at n v; opened = r.open_at n v; contents = vb_contents r n v; disk = r.disk_at n v; counts = r.counts_at n v }

-- what counts where a vBucket commits is what the lines tell: its chain, and what each node acknowledged, no more and no less
pub record CountsAre (told : CountsKnown) (others : Members) (acks : List ℕ) : Type 0 where
  pub chain : told.chain ≡ others
  pub counted : (m p : ℕ) → 0 < p → p ≤ acked acks m → HasAcknowledged told.acks m p
  pub alone : (m p : ℕ) → HasAcknowledged told.acks m p → p ≤ acked acks m

-- the same where it may commit
abbrev pub CountsIf : Bool → CountsKnown → Members → List ℕ → Type 0
CountsIf false told others acks = Unit {0}
CountsIf true told others acks = CountsAre told others acks

-- of each prepare that waits and has a deadline the lines tell when it was made, and that its deadline is so long behind that
pub record TimesAre (times : List (ℕ × ℕ)) (waiting : List Waiting) : Type 0 where
  pub each : (w : Waiting) → Waits w waiting → (deadline : ℕ) → w.deadline ≡ Some deadline → (before : ℕ) × IsMadeAt w.seq before times × IsUp before deadline

-- the same where it may be given up
abbrev pub TimesIf : Bool → List (ℕ × ℕ) → List Waiting → Type 0
TimesIf false times waiting = Unit {0}
TimesIf true times waiting = TimesAre times waiting

pub no_times : (b : Role) (times : List (ℕ × ℕ)) (waiting : List Waiting) → is_active b ≡ false → TimesIf (is_active b) times waiting
no_times b times waiting e = subst (λ x. TimesIf x times waiting) (sym e) tt

pub active_times : {b : Bool} {times : List (ℕ × ℕ)} {waiting : List Waiting} → b ≡ true → TimesIf b times waiting → TimesAre times waiting
active_times {times = times} {waiting = waiting} e x = subst (λ b. TimesIf b times waiting) e x

pub times_if : {b : Bool} {times : List (ℕ × ℕ)} {waiting : List Waiting} → (b ≡ true → TimesAre times waiting) → TimesIf b times waiting
times_if {b = true} x = x refl
times_if {b = false} x = tt

-- one that is not active commits nothing
pub no_counts : (b : Role) (told : CountsKnown) (others : Members) (acks : List ℕ) → is_active b ≡ false → CountsIf (is_active b) told others acks
no_counts b told others acks e = subst (λ x. CountsIf x told others acks) (sym e) tt

-- and was left nothing
pub no_lefts : (b : Role) (risen at : ℕ) (waiting : List Waiting) → is_active b ≡ false → is_active b ≡ true → LeftUpTo risen at waiting
no_lefts b risen at waiting off on = let z : false ≡ true = sym off ∙ on in cc

-- one that is active
pub active_counts : {b : Bool} {told : CountsKnown} {others : Members} {acks : List ℕ} → b ≡ true → CountsIf b told others acks → CountsAre told others acks
active_counts {told = told} {others = others} {acks = acks} e x = subst (λ b. CountsIf b told others acks) e x

pub counts_if : {b : Bool} {told : CountsKnown} {others : Members} {acks : List ℕ} → (b ≡ true → CountsAre told others acks) → CountsIf b told others acks
counts_if {b = true} x = x refl
counts_if {b = false} x = tt

-- what a vBucket has by itself, whatever its role, its spans and its streams are: of all changes that it was given and did not give up, those up to its floor are in its image, and it has the others; none has a CAS above the last one
pub record Keeps (image : Picture) (floor cas : ℕ) (full changes : List Change) (names : List LogEntry) (at : ℕ) : Type 0 where
  pub below : List Change
  pub parts : full ≡ below ++ changes
  pub base : image ≡ image_of below
  pub low : Rises 0 floor below
  pub fits : All ChangeFits full
  pub weighs : Weighs cas full
  pub entries : All EntryFits names
  pub high : last_seq 0 full ≡ at

-- it holds what the lines tell
pub record VbTold (told : VbContents) (changes : List Change) (names : List LogEntry) (p : Position) : Type 0 where
  pub held : told.held ≡ changes
  pub log : told.log ≡ Some names
  pub snap : told.snap ≡ Some (p.ss, p.se)
  pub unlogged : told.branch ≡ None → names ≡ []

-- a vBucket, whatever its role is and whatever it may write: it is its member of the cluster, and where a snapshot may end, it holds its branch from the start
pub record VbHeld (tree : List Branch) (contents : VbContents) (m : Member) (vb : Plain) : Type 0 where
  pub sound : Sound vb
  pub spanned : Spanned vb.role vb.spans vb.position
  pub keeps : Keeps vb.base vb.floor vb.last_cas m.held vb.held vb.log vb.position.at
  pub open keeps use *
  pub told : VbTold contents m.held vb.log vb.position
  pub open told use *
  pub member : MemberAgrees m vb
  pub branch : BranchAgrees contents.branch m.br
  pub holds : HoldsAt 0 (WholeTo vb.floor vb.spans vb.position) m.held (known_history tree contents.branch)

abbrev pub VbHolds : Chronicle → ℕ → ℕ → Member → Plain → Type 0
VbHolds r n v m vb = VbHeld r.tree (vb_contents r n v) m vb

-- whether a vBucket changed since it was sealed is told as it is; of one that is about to take its branch over it may be told so though it was sealed, as it is sealed with no line where another state pending comes
abbrev pub OpenedAs : Role → Bool → Bool → Type 0
OpenedAs Role.Pending true changed = Unit {0}
OpenedAs role told changed = told ≡ changed

pub opened_as : (role : Role) (told changed : Bool) → told ≡ changed → OpenedAs role told changed
opened_as Role.Pending true changed e = tt
opened_as role told changed e = e

pub opened_is : (role : Role) (told changed : Bool) → (role ≡ Role.Pending → ⊥) → OpenedAs role told changed → told ≡ changed
opened_is Role.Pending told changed other x = absurd (other refl)
opened_is role told changed other x = x

-- the same, with its role and what it may write
pub record VbRowIs (tree : List Branch) (writer_of : ℕ → Option (ℕ × ℕ)) (row : VbRow) (n v : ℕ) (m : Member) (vb : Plain) : Type 0 where
  pub kept : VbHeld tree row.contents m vb
  pub open kept use *
  pub role : row.role ≡ Some (Some vb.role)
  pub opened : OpenedAs vb.role row.opened (is_some vb.spans.current)
  pub writes : IsWriterIf (is_active vb.role) tree (writer_of m.br) row.contents.branch n v m.br
  pub counts : CountsIf (is_active vb.role) row.counts vb.others vb.acks
  pub lefts : is_active vb.role ≡ true → LeftUpTo row.counts.risen vb.position.at vb.waiting
  pub times : TimesIf (is_active vb.role) row.counts.times vb.waiting

abbrev pub VbAgrees : Chronicle → ℕ → ℕ → Member → Plain → Type 0
VbAgrees r n v m vb = VbRowIs r.tree r.writer_of (vb_row r n v) n v m vb

-- one that is not there: its member, which is not active, has what the lines tell
pub record IsAway (row : VbRow) (m : Member) : Type 0 where
  pub opened : row.opened ≡ false
  pub told : VbTold row.contents m.held m.log m.position
  pub branch : BranchAgrees row.contents.branch m.br
  pub active : m.active ≡ false
  pub fits : All ChangeFits m.held
  pub entries : All EntryFits m.log
  pub high : last_seq 0 m.held ≡ m.position.at

abbrev pub VbIsIf : List Branch → (ℕ → Option (ℕ × ℕ)) → VbRow → ℕ → ℕ → Member → Option Plain → Type 0
VbIsIf tree writer_of row n v m None = IsAway row m
VbIsIf tree writer_of row n v m (Some vb) = VbRowIs tree writer_of row n v m vb

abbrev pub AgreesAt : Chronicle → ℕ → ℕ → Member → Option Plain → Type 0
AgreesAt r n v m o = VbIsIf r.tree r.writer_of (vb_row r n v) n v m o

-- all changes that a vBucket was given and did not give up rise
pub all_rise : {tree : List Branch} {contents : VbContents} {m : Member} {vb : Plain} → VbHeld tree contents m vb → Rises 0 vb.position.at m.held
all_rise {m = m} {vb = vb} a = subst (Rises 0 vb.position.at) (sym a.parts) (rises_append 0 vb.floor vb.position.at a.below vb.held a.low a.sound.rises)

-- and leave its image
pub image_is : {tree : List Branch} {contents : VbContents} {m : Member} {vb : Plain} → VbHeld tree contents m vb → image_in vb ≡ image_of m.held
image_is {m = m} {vb = vb} a = ap (λ b. fold applied b vb.held) a.base ∙ sym (fold-append applied nothing a.below vb.held) ∙ ap image_of (sym a.parts)
