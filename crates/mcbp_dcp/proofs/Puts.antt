-- bytes that were put one part behind another
use Rattle.std.proofs.Common.{◌≡◌, ℕ, ◌++◌, List, ◌∙◌, append_assoc}
use Rattle.mcbp_dcp.specs.declared.writer.Header.{Header}
use Rattle.mcbp_dcp.specs.DcpFrames.{header_bytes}

-- the first part
pub first : (old before now part bytes : List ℕ) → before ≡ old → now ≡ before ++ part → part ≡ bytes → now ≡ old ++ bytes
first old before now part bytes e f g = f ∙ (λ i. e i ++ g i)

-- one more part
pub put : (old before now parts part bytes : List ℕ) → before ≡ old ++ parts → now ≡ before ++ part → part ≡ bytes → now ≡ old ++ (parts ++ bytes)
put old before now parts part bytes e f g = f ∙ (λ i. e i ++ g i) ∙ append_assoc old parts bytes

-- a header of a request, with what is known of its lengths
pub headed : (old now : List ℕ) (r s : Header) (k l m n : ℕ) (make : Header → ℕ → ℕ → Header) → now ≡ old ++ header_bytes (make r k m) → r ≡ s → k ≡ l → m ≡ n
    → now ≡ old ++ header_bytes (make s l n)
headed old now r s k l m n make e f g h = e ∙ (λ i. old ++ header_bytes (make (f i) (g i) (h i)))
