-- the numbers that stand for statuses on the wire
use Rattle.std.specs.Prelude.{ℕ}
use Rattle.vb_types.specs.declared.status.Status.{Status}
use Rattle.vb_types.specs.declared.status.Status.TheVariants as status

-- the status field of a response
abbrev pub status_code : Status → ℕ
status_code status.Success = 0x00
status_code status.KeyEnoent = 0x01
status_code status.KeyEexists = 0x02
status_code status.E2big = 0x03
status_code status.Einval = 0x04
status_code status.NotMyVbucket = 0x07
status_code status.Erange = 0x22
status_code status.Rollback = 0x23
status_code status.UnknownFrameInfo = 0x80
status_code status.UnknownCommand = 0x81
status_code status.Enomem = 0x82
status_code status.NotSupported = 0x83
status_code status.Etmpfail = 0x86
status_code status.DurabilityInvalidLevel = 0xa0
status_code status.DurabilityImpossible = 0xa1
status_code status.SyncWriteInProgress = 0xa2
status_code status.SyncWriteAmbiguous = 0xa3
status_code status.SyncWriteReCommitInProgress = 0xa4
