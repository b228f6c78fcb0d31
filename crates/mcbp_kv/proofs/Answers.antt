-- answers are spelled in the protocol's order
use Rattle.std.proofs.Common.{◌≡◌, ℕ, List, ◌+◌, [], ◌∷◌, ◌++◌, ◌∙◌, ap, sym, length, arith}
use Rattle.std.specs.Int.{w16, w32, w64, to_be_bytes}
use Rattle.std.proofs.lemmas.List.{append-nil, append_assoc}
use Rattle.mcbp_frame.specs.declared.frame.TheConstants.{RESPONSE}
use Rattle.mcbp_frame.specs.Frames.{body_size}
use Rattle.mcbp_frame.specs.Spelling.{header_spelling, spelling}
use Rattle.vb_types.specs.Statuses.{status_code}
use Rattle.mcbp_kv.specs.Answers.{AnswersInOrder}
use Rattle.mcbp_kv.specs.Replies.{reply_frame}
use Rattle.mcbp_kv.specs.declared.reply.KvReply.{KvReply}

-- without framing extras and key nothing stands between header, extras and value
pub spelled : (r : KvReply) → spelling (reply_frame r) ≡ header_spelling (reply_frame r) ++ r.extras ++ r.value
unfolding spelling
spelled r = λ i. header_spelling (reply_frame r) ++ append-nil r.extras i ++ r.value

-- behind other bytes, piece by piece
pub written : (r : KvReply) (old start first second all header extras value : List ℕ) → start ≡ old → header ≡ header_spelling (reply_frame r)
    → first ≡ start ++ header → extras ≡ r.extras → second ≡ first ++ extras → value ≡ r.value → all ≡ second ++ value
    → all ≡ old ++ spelling (reply_frame r)
written r old start first second all header extras value s h f e x v a =
    let front : first ≡ old ++ header_spelling (reply_frame r) = f ∙ (λ i. s i ++ h i) in
    a ∙ (λ i. (x ∙ (λ j. front j ++ e j)) i ++ v i) ∙ ap (λ bytes. bytes ++ r.value) (append_assoc old (header_spelling (reply_frame r)) r.extras)
    ∙ append_assoc old (header_spelling (reply_frame r) ++ r.extras) r.value ∙ ap (λ bytes. old ++ bytes) (sym (spelled r))

-- and so in the protocol's order
pub in_order : AnswersInOrder
in_order r =
    let size : body_size (reply_frame r) ≡ length r.extras + length r.value = omega arith in
    spelled r ∙ (λ i. RESPONSE ∷ r.opcode ∷ 0 ∷ 0 ∷ length r.extras ∷ r.datatype ∷ [] ++ to_be_bytes w16 (status_code r.status)
    ++ to_be_bytes w32 (size i) ++ to_be_bytes w32 r.opaque ++ to_be_bytes w64 r.cas ++ r.extras ++ r.value)
