-- which records stand, in numbers
use Rattle.std.specs.Prelude.{◌≡◌, true, false}
use Rattle.vb_disk.specs.declared.fuse.Fuse.TheVariants.{Off, Stop, Fail}
use Rattle.vb_disk.specs.declared.made.Outcome.{Outcome}
use Rattle.vb_disk.specs.declared.made.Outcome.TheVariants.{Old, New, Fill}
use Rattle.vb_journal.specs.UnderArms.{all_pass, burnt_noting, leaves_open, stands}

-- a crash leaves a gate open that was written and not synced: where it leaves all, or the byte 1
pub record OpenInNumbers : Type 0 where
  pub old : leaves_open Old ≡ false
  pub new : leaves_open New ≡ true
  pub zero_byte : leaves_open (Fill 0) ≡ false
  pub one_byte : leaves_open (Fill 1) ≡ true
  pub other_byte : leaves_open (Fill 255) ≡ false

-- An append makes four calls. A stop at the third or the fourth, or a fault of the fourth, leaves its record exactly where the crash leaves the gate open; one at an earlier call, or a fault of the third, does not leave it. Where no call is hit it stands.
pub record StandsInNumbers (out : Outcome) : Type 0 where
  pub stop_1 : stands (Stop 1) out ≡ false
  pub stop_2 : stands (Stop 2) out ≡ false
  pub stop_3 : stands (Stop 3) out ≡ leaves_open out
  pub stop_4 : stands (Stop 4) out ≡ leaves_open out
  pub fail_1 : stands (Fail 1) out ≡ false
  pub fail_2 : stands (Fail 2) out ≡ false
  pub fail_3 : stands (Fail 3) out ≡ false
  pub fail_4 : stands (Fail 4) out ≡ leaves_open out
  pub stop_5 : stands (Stop 5) out ≡ true
  pub fail_5 : stands (Fail 5) out ≡ true
  pub none : stands (Stop 0) out ≡ true
  pub off : stands Off out ≡ true

-- four calls burn an arm, and it is off once it fired
pub record BurnsInNumbers : Type 0 where
  pub fired : burnt_noting (Stop 4) ≡ Off
  pub fired_early : burnt_noting (Fail 2) ≡ Off
  pub passed : burnt_noting (Stop 5) ≡ Stop 1
  pub passed_more : burnt_noting (Fail 9) ≡ Fail 5
  pub hit : all_pass (Stop 4) ≡ false
  pub done : all_pass (Stop 5) ≡ true
