-- logs as bytes, and back
use Rattle.std.proofs.Common.{◌≡◌, ℕ, zero, suc, ◌*◌, ◌/◌, ◌%◌, ◌++◌, ◌<◌, List, [], ◌∷◌, length, take, drop, map, refl, ap, ◌∙◌, arith, length-append, length-drop}
use Rattle.std.specs.Int.{w64, to_be_bytes}
use Rattle.std.specs.List.{All}
use Rattle.std.specs.Simd.{first_chunks}
use Rattle.std.proofs.Math.Seq.{take-append_seam, drop-append_seam}
use Rattle.std.proofs.lemmas.Nat.{from_be_bytes-to_be_bytes_8}
use Rattle.std.proofs.lemmas.List.{take_all, take-append-drop, length-take-le}
use Rattle.std.proofs.lemmas.List.Elements.{All-head, All-tail, All-take, All-drop}
use Rattle.vb_types.specs.declared.role.LogEntry.{LogEntry}
use Rattle.mcbp_frame.specs.Frames.{big_64_at}
use Rattle.mcbp_frame.specs.Streams.{AreBytes}
use Rattle.mcbp_dcp.specs.WireLogs.{entry_spelling, log_spelling, entry_in, log_in}
use Rattle.mcbp_dcp.specs.DcpLaws.{EntryInRange}
use Rattle.mcbp_dcp.proofs.Words.{word_64, behind}

-- an entry has 16 bytes
pub length_log : (log : List LogEntry) → length (log_spelling log) ≡ 16 * length log
length_log [] = refl
length_log (e ∷ log) = omega (arith, length_log log, length-append (entry_spelling e) (log_spelling log))

entry_back : (e : LogEntry) → EntryInRange e → entry_in (entry_spelling e) ≡ e
entry_back e r = λ i. record { uuid = from_be_bytes-to_be_bytes_8 e.uuid r.uuid i; seq = from_be_bytes-to_be_bytes_8 e.seq r.seq i }

entries_back : (log : List LogEntry) → All EntryInRange log → map entry_in (first_chunks 16 (length log) (log_spelling log)) ≡ log
entries_back [] r = refl
entries_back (e ∷ log) r =
    let front : take 16 (entry_spelling e ++ log_spelling log) ≡ entry_spelling e = take-append_seam (entry_spelling e) (log_spelling log) in
    let rest : drop 16 (entry_spelling e ++ log_spelling log) ≡ log_spelling log = drop-append_seam (entry_spelling e) (log_spelling log) in
    λ i. (ap entry_in front ∙ entry_back e (All-head EntryInRange e log r)) i ∷ (ap (λ l. map entry_in (first_chunks 16 (length log) l)) rest ∙ entries_back log (All-tail EntryInRange e log r)) i

-- a log that is written is read back
pub log_back : (log : List LogEntry) → All EntryInRange log → log_in (log_spelling log) ≡ log
unfolding log_in
log_back log r =
    let count : length (log_spelling log) / 16 ≡ length log = omega (arith, length_log log) in
    ap (λ n. map entry_in (first_chunks 16 n (log_spelling log))) count ∙ entries_back log r

entry_once : (bytes : List ℕ) → AreBytes bytes → length bytes ≡ 16 → entry_spelling (entry_in bytes) ≡ bytes
entry_once bytes h len =
    behind bytes [] (to_be_bytes w64 (big_64_at bytes 0)) (to_be_bytes w64 (big_64_at bytes 8)) 0 8 8 (word_64 bytes 0 h (omega arith)) (word_64 bytes 8 h (omega arith))
    ∙ take_all 16 bytes (omega arith)

entries_once : (n : ℕ) (bytes : List ℕ) → AreBytes bytes → length bytes ≡ 16 * n → log_spelling (map entry_in (first_chunks 16 n bytes)) ≡ bytes
entries_once zero [] h len = refl
entries_once zero (b ∷ bytes) h len = absurd (omega (arith, len))
entries_once (suc n) bytes h len =
    let entry = entry_once (take 16 bytes) (All-take (λ b. b < 256) 16 bytes h) (length-take-le 16 bytes (omega (arith, len))) in
    let rest = entries_once n (drop 16 bytes) (All-drop (λ b. b < 256) 16 bytes h) (omega (arith, len, length-drop 16 bytes)) in
    (λ i. entry i ++ rest i) ∙ take-append-drop 16 bytes

-- bytes that are read as a log are its spelling
pub log_once : (bytes : List ℕ) → AreBytes bytes → length bytes % 16 ≡ 0 → log_spelling (log_in bytes) ≡ bytes
unfolding log_in
log_once bytes h whole = entries_once (length bytes / 16) bytes h (omega (arith, whole))
