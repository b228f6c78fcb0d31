-- the words of a kind in a transcript's lines, read back by their first letters
use Rattle.std.proofs.Common.{◌≡◌, ℕ, Bool, true, false, List, [], ◌∷◌, ◌++◌, Option, Some, None, refl}
use Rattle.std.specs.Prelude.{◌==◌, if◌then◌else◌, codes}
use Rattle.std.specs.Str.{bytes_eq}
use Rattle.vb_types.specs.declared.change.Level.{Level}
use Rattle.vb_types.specs.declared.change.Level.TheVariants as level
use Rattle.vb_types.specs.declared.role.Role.{Role}
use Rattle.vb_types.specs.declared.role.Role.TheVariants as role
use Rattle.vb_events.specs.declared.event.ItemAct.{ItemAct}
use Rattle.vb_events.specs.declared.event.ItemAct.TheVariants as sent
use Rattle.vb_events.specs.declared.event.EndReason.{EndReason}
use Rattle.vb_events.specs.declared.event.EndReason.TheVariants as reason
use Rattle.vb_events.specs.declared.event.Why.{Why}
use Rattle.vb_events.specs.declared.event.Why.TheVariants as why
use Rattle.vb_events.specs.declared.event.Cause.{Cause}
use Rattle.vb_events.specs.declared.event.Cause.TheVariants as cause
use Rattle.script_text.specs.Transcript.{flag_text, role_text, level_text, sent_text, reason_text, cause_text, why_text}
use Rattle.script_text.proofs.Words.{ends, clean, reading, read_word}

abbrev pub role_of : List ℕ → Option Role
role_of [] = None
role_of (b ∷ word) =
    if b == 97 then Some role.Active else if b == 114 then Some role.Replica else if b == 112 then Some role.Pending else Some role.Dead

pub role_clean : (r : Role) → clean ends (role_text r) ≡ true
role_clean role.Active = refl
role_clean role.Replica = refl
role_clean role.Pending = refl
role_clean role.Dead = refl

pub role_is : (r : Role) → role_of (role_text r) ≡ Some r
role_is role.Active = refl
role_is role.Replica = refl
role_is role.Pending = refl
role_is role.Dead = refl

pub role_back : {X : Type 0} (r : Role) (s : ℕ) (rest : List ℕ) (k : Role → List ℕ → Option X) → ends s ≡ true → reading role_of (role_text r ++ s ∷ rest) k ≡ k r rest
role_back r s rest k e = read_word role_of (role_text r) r s rest k (role_clean r) e (role_is r)

abbrev pub level_of : List ℕ → Option Level
level_of [] = None
level_of (b ∷ word) = if b == 49 then Some level.Majority else if b == 50 then Some level.MajorityPersistActive else Some level.PersistMajority

pub level_clean : (l : Level) → clean ends (level_text l) ≡ true
level_clean level.Majority = refl
level_clean level.MajorityPersistActive = refl
level_clean level.PersistMajority = refl

pub level_is : (l : Level) → level_of (level_text l) ≡ Some l
level_is level.Majority = refl
level_is level.MajorityPersistActive = refl
level_is level.PersistMajority = refl

pub level_back : {X : Type 0} (l : Level) (s : ℕ) (rest : List ℕ) (k : Level → List ℕ → Option X) → ends s ≡ true → reading level_of (level_text l ++ s ∷ rest) k ≡ k l rest
level_back l s rest k e = read_word level_of (level_text l) l s rest k (level_clean l) e (level_is l)

abbrev pub flag_of : List ℕ → Option Bool
flag_of [] = None
flag_of (b ∷ word) = Some (b == 49)

pub flag_clean : (f : Bool) → clean ends (flag_text f) ≡ true
flag_clean true = refl
flag_clean false = refl

pub flag_is : (f : Bool) → flag_of (flag_text f) ≡ Some f
flag_is true = refl
flag_is false = refl

pub flag_back : {X : Type 0} (f : Bool) (s : ℕ) (rest : List ℕ) (k : Bool → List ℕ → Option X) → ends s ≡ true → reading flag_of (flag_text f ++ s ∷ rest) k ≡ k f rest
flag_back f s rest k e = read_word flag_of (flag_text f) f s rest k (flag_clean f) e (flag_is f)

abbrev pub sent_of : List ℕ → Option ItemAct
sent_of [] = None
sent_of (b ∷ word) =
    if b == 115 then Some sent.Set
    else if b == 114 then Some sent.Remove
    else if b == 112 then Some sent.Prepare
    else if b == 99 then Some sent.Commit
    else Some sent.Abort

pub sent_clean : (a : ItemAct) → clean ends (sent_text a) ≡ true
sent_clean sent.Set = refl
sent_clean sent.Remove = refl
sent_clean sent.Prepare = refl
sent_clean sent.Commit = refl
sent_clean sent.Abort = refl

pub sent_is : (a : ItemAct) → sent_of (sent_text a) ≡ Some a
sent_is sent.Set = refl
sent_is sent.Remove = refl
sent_is sent.Prepare = refl
sent_is sent.Commit = refl
sent_is sent.Abort = refl

pub sent_back : {X : Type 0} (a : ItemAct) (s : ℕ) (rest : List ℕ) (k : ItemAct → List ℕ → Option X) → ends s ≡ true → reading sent_of (sent_text a ++ s ∷ rest) k ≡ k a rest
sent_back a s rest k e = read_word sent_of (sent_text a) a s rest k (sent_clean a) e (sent_is a)

abbrev pub reason_of : List ℕ → Option EndReason
reason_of word =
    if bytes_eq word (codes "cut") then Some reason.Cut
    else if bytes_eq word (codes "refused") then Some reason.Refused
    else if bytes_eq word (codes "protocol") then Some reason.Protocol
    else if bytes_eq word (codes "done") then Some reason.Done
    else if bytes_eq word (codes "state") then Some reason.State
    else Some reason.Disk

pub reason_clean : (r : EndReason) → clean ends (reason_text r) ≡ true
reason_clean reason.Cut = refl
reason_clean reason.Refused = refl
reason_clean reason.Protocol = refl
reason_clean reason.Done = refl
reason_clean reason.State = refl
reason_clean reason.Disk = refl

pub reason_is : (r : EndReason) → reason_of (reason_text r) ≡ Some r
reason_is reason.Cut = refl
reason_is reason.Refused = refl
reason_is reason.Protocol = refl
reason_is reason.Done = refl
reason_is reason.State = refl
reason_is reason.Disk = refl

pub reason_back : {X : Type 0} (r : EndReason) (s : ℕ) (rest : List ℕ) (k : EndReason → List ℕ → Option X) → ends s ≡ true → reading reason_of (reason_text r ++ s ∷ rest) k ≡ k r rest
reason_back r s rest k e = read_word reason_of (reason_text r) r s rest k (reason_clean r) e (reason_is r)

abbrev pub why_of : List ℕ → Option Why
why_of word =
    if bytes_eq word (codes "-") then Some why.All
    else if bytes_eq word (codes "idle") then Some why.Idle
    else if bytes_eq word (codes "full") then Some why.Full
    else if bytes_eq word (codes "wait-state") then Some why.WaitState
    else if bytes_eq word (codes "wait-saved") then Some why.WaitSaved
    else Some why.Disk

pub why_clean : (w : Why) → clean ends (why_text w) ≡ true
why_clean why.All = refl
why_clean why.Idle = refl
why_clean why.Full = refl
why_clean why.WaitState = refl
why_clean why.WaitSaved = refl
why_clean why.Disk = refl

pub why_is : (w : Why) → why_of (why_text w) ≡ Some w
why_is why.All = refl
why_is why.Idle = refl
why_is why.Full = refl
why_is why.WaitState = refl
why_is why.WaitSaved = refl
why_is why.Disk = refl

pub why_back : {X : Type 0} (w : Why) (s : ℕ) (rest : List ℕ) (k : Why → List ℕ → Option X) → ends s ≡ true → reading why_of (why_text w ++ s ∷ rest) k ≡ k w rest
why_back w s rest k e = read_word why_of (why_text w) w s rest k (why_clean w) e (why_is w)

abbrev pub cause_of : List ℕ → Option Cause
cause_of word =
    if bytes_eq word (codes "unknown-node") then Some cause.UnknownNode
    else if bytes_eq word (codes "node-exists") then Some cause.NodeExists
    else if bytes_eq word (codes "node-up") then Some cause.NodeUp
    else if bytes_eq word (codes "node-down") then Some cause.NodeDown
    else if bytes_eq word (codes "unknown-vb") then Some cause.UnknownVb
    else if bytes_eq word (codes "vb-exists") then Some cause.VbExists
    else if bytes_eq word (codes "limit") then Some cause.Limit
    else if bytes_eq word (codes "uuid-zero") then Some cause.UuidZero
    else if bytes_eq word (codes "uuid-used") then Some cause.UuidUsed
    else if bytes_eq word (codes "ids-short") then Some cause.IdsShort
    else if bytes_eq word (codes "wrong-role") then Some cause.WrongRole
    else if bytes_eq word (codes "chain-bad") then Some cause.ChainBad
    else if bytes_eq word (codes "link-open") then Some cause.LinkOpen
    else if bytes_eq word (codes "link-closed") then Some cause.LinkClosed
    else if bytes_eq word (codes "batch-out") then Some cause.BatchOut
    else if bytes_eq word (codes "nothing-taken") then Some cause.NothingTaken
    else if bytes_eq word (codes "closed") then Some cause.Closed
    else if bytes_eq word (codes "disk") then Some cause.Disk
    else Some cause.Stopped

pub cause_clean : (c : Cause) → clean ends (cause_text c) ≡ true
cause_clean cause.UnknownNode = refl
cause_clean cause.NodeExists = refl
cause_clean cause.UnknownVb = refl
cause_clean cause.VbExists = refl
cause_clean cause.Limit = refl
cause_clean cause.UuidZero = refl
cause_clean cause.UuidUsed = refl
cause_clean cause.WrongRole = refl
cause_clean cause.ChainBad = refl
cause_clean cause.LinkOpen = refl
cause_clean cause.LinkClosed = refl
cause_clean cause.BatchOut = refl
cause_clean cause.NothingTaken = refl
cause_clean cause.Closed = refl
cause_clean cause.Disk = refl
cause_clean cause.NodeUp = refl
cause_clean cause.NodeDown = refl
cause_clean cause.IdsShort = refl
cause_clean cause.Stopped = refl

pub cause_is : (c : Cause) → cause_of (cause_text c) ≡ Some c
cause_is cause.UnknownNode = refl
cause_is cause.NodeExists = refl
cause_is cause.UnknownVb = refl
cause_is cause.VbExists = refl
cause_is cause.Limit = refl
cause_is cause.UuidZero = refl
cause_is cause.UuidUsed = refl
cause_is cause.WrongRole = refl
cause_is cause.ChainBad = refl
cause_is cause.LinkOpen = refl
cause_is cause.LinkClosed = refl
cause_is cause.BatchOut = refl
cause_is cause.NothingTaken = refl
cause_is cause.Closed = refl
cause_is cause.Disk = refl
cause_is cause.NodeUp = refl
cause_is cause.NodeDown = refl
cause_is cause.IdsShort = refl
cause_is cause.Stopped = refl

pub cause_back : {X : Type 0} (c : Cause) (s : ℕ) (rest : List ℕ) (k : Cause → List ℕ → Option X) → ends s ≡ true → reading cause_of (cause_text c ++ s ∷ rest) k ≡ k c rest
cause_back c s rest k e = read_word cause_of (cause_text c) c s rest k (cause_clean c) e (cause_is c)
