-- what is told of disks, arms and ids behind single lines, to be judged by hand
use Rattle.std.specs.Prelude.{◌≡◌, ℕ, Bool, List, [], ◌∷◌}
use Rattle.script_text.specs.declared.verb.Verb.{Verb}
use Rattle.vb_disk.specs.declared.fuse.Fuse.{Fuse}
use Rattle.vb_disk.specs.declared.fuse.Fuse.TheVariants.{Fail}
use Rattle.vb_events.specs.declared.event.Answer.{Answer}
use Rattle.vb_events.specs.declared.event.Event.{Event}
use Rattle.vb_events.specs.declared.event.Event.TheVariants as event
use Rattle.vb_types.specs.declared.journal.Record.{Record}
use Rattle.vb_types.specs.declared.role.Role.{Role}
use Rattle.transcript_law.specs.Chronicles.{Chronicle, after_group, after_lines, no_arm}
use Rattle.transcript_law.specs.Followers.{log_of}
use Rattle.transcript_law.specs.Rollbacks.{after_active}
use Rattle.transcript_law.specs.Transcripts.{change_line}

-- behind this line, of which this is told, these records of the vBucket 0 of the node 0 stand
abbrev pub Notes : Chronicle → Verb → List Event → Answer → List Record → Type 0
Notes chronicle line lines said book = ((after_group chronicle line lines said).disk_at 0 0).book ≡ book

-- and it has a disk, or not
abbrev pub HasDisk : Chronicle → Verb → List Event → Answer → Bool → Type 0
HasDisk chronicle line lines said there = ((after_group chronicle line lines said).disk_at 0 0).there ≡ there

-- the node 0 has an arm that fails its ninth call
abbrev pub ninth_fails : Chronicle → Chronicle
ninth_fails chronicle = record chronicle { arm_at = λ n. record no_arm { fuse = Fail 9 } }

-- and has this one behind the line
abbrev pub Spends : Chronicle → Verb → List Event → Answer → Fuse → Type 0
Spends chronicle line lines said left = ((after_group (ninth_fails chronicle) line lines said).arm_at 0).fuse ≡ left

-- the vBucket gets this role
abbrev pub role_line : Role → List Event
role_line said = event.Role 0 0 said ∷ []

-- what was read when the branch 5 has its one change
abbrev pub after_change_known : Chronicle
after_change_known = after_lines after_active (change_line 0 ∷ [])

-- a vBucket takes the log of the branch 5 over
abbrev pub adopts_at : ℕ → ℕ → List Event
adopts_at n v = event.Adopted n v (log_of 5) ∷ []
