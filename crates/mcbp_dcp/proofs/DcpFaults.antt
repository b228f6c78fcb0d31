-- where each fault is given
use Rattle.std.proofs.Common.{◌≡◌, Bool, true, false, refl, sym, ap, ◌∙◌, cond}
use Rattle.std.specs.Prelude.{◌↔◌, Option, Some, None, Result, Err, not, IsTrue, IsFalse}
use Rattle.std.specs.Option.{option_map}
use Rattle.mcbp_frame.specs.declared.frame.Frame.{Frame}
use Rattle.mcbp_dcp.specs.declared.row.DcpRow.{DcpRow}
use Rattle.mcbp_dcp.specs.declared.message.DcpMsg.{DcpMsg}
use Rattle.mcbp_dcp.specs.declared.message.DcpFault.{DcpFault}
use Rattle.mcbp_dcp.specs.declared.message.DcpFault.TheVariants.{WrongExtras, WrongKey, WrongValue}
use Rattle.mcbp_dcp.specs.Rows.{frame_row}
use Rattle.mcbp_dcp.specs.Shapes.{extras_fit, key_fits, value_fits, shape_fault}
use Rattle.mcbp_dcp.specs.Messages.{message_in, unless_fault, read_as, read_of}

-- the answer by the three tests
abbrev told_by : Bool → Bool → Bool → DcpMsg → Option (Result DcpMsg DcpFault)
told_by x k v m = Some (unless_fault (cond (not x) (Some WrongExtras) (cond (not k) (Some WrongKey) (cond (not v) (Some WrongValue) None))) m)

extras_by : (x k v : Bool) (m : DcpMsg) → (told_by x k v m ≡ Some (Err WrongExtras)) ↔ IsFalse x
extras_by false k v m = (λ e. refl, λ e. refl)
extras_by true false v m = (λ e. cc, λ e. cc)
extras_by true true false m = (λ e. cc, λ e. cc)
extras_by true true true m = (λ e. cc, λ e. cc)

key_by : (x k v : Bool) (m : DcpMsg) → (told_by x k v m ≡ Some (Err WrongKey)) ↔ (IsTrue x × IsFalse k)
key_by false k v m = (λ e. cc, λ e. cc)
key_by true false v m = (λ e. (refl, refl), λ e. refl)
key_by true true false m = (λ e. cc, λ e. cc)
key_by true true true m = (λ e. cc, λ e. cc)

value_by : (x k v : Bool) (m : DcpMsg) → (told_by x k v m ≡ Some (Err WrongValue)) ↔ (IsTrue x × IsTrue k × IsFalse v)
value_by false k v m = (λ e. cc, λ e. cc)
value_by true false v m = (λ e. cc, λ e. cc)
value_by true true false m = (λ e. (refl, refl, refl), λ e. refl)
value_by true true true m = (λ e. cc, λ e. cc)

by_tests : (f : Frame) (r : DcpRow) → frame_row f ≡ Some r → read_of f ≡ told_by (extras_fit r f) (key_fits r f) (value_fits r f) (message_in r f)
unfolding read_of shape_fault
by_tests f r e = ap (option_map (read_as f)) e

pub wrong_extras : (f : Frame) (r : DcpRow) → frame_row f ≡ Some r → (read_of f ≡ Some (Err WrongExtras)) ↔ IsFalse (extras_fit r f)
wrong_extras f r e =
    let by = extras_by (extras_fit r f) (key_fits r f) (value_fits r f) (message_in r f) in
    (λ h. by.0 (sym (by_tests f r e) ∙ h), λ h. by_tests f r e ∙ by.1 h)

pub wrong_key : (f : Frame) (r : DcpRow) → frame_row f ≡ Some r → (read_of f ≡ Some (Err WrongKey)) ↔ (IsTrue (extras_fit r f) × IsFalse (key_fits r f))
wrong_key f r e =
    let by = key_by (extras_fit r f) (key_fits r f) (value_fits r f) (message_in r f) in
    (λ h. by.0 (sym (by_tests f r e) ∙ h), λ h. by_tests f r e ∙ by.1 h)

pub wrong_value : (f : Frame) (r : DcpRow) → frame_row f ≡ Some r → (read_of f ≡ Some (Err WrongValue)) ↔ (IsTrue (extras_fit r f) × IsTrue (key_fits r f) × IsFalse (value_fits r f))
wrong_value f r e =
    let by = value_by (extras_fit r f) (key_fits r f) (value_fits r f) (message_in r f) in
    (λ h. by.0 (sym (by_tests f r e) ∙ h), λ h. by_tests f r e ∙ by.1 h)
