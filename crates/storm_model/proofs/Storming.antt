-- what a history of a storm leaves
use Rattle.std.proofs.Common.{ℕ, List, [], map, arith}
use Rattle.vb_calls.specs.State.{image_in}
use Rattle.vb_calls.specs.declared.calls.VbCall.{VbCall}
use Rattle.vb_calls.specs.declared.calls.VbReply.{VbReply}
use Rattle.storm_model.specs.Histories.{put_in, stores}
use Rattle.storm_model.specs.Ledgers.{ledger}
use Rattle.storm_model.specs.Sums.{storm_new}
use Rattle.storm_model.specs.Laws.{behind, IsStorming, StoresStand}
use Rattle.storm_model.proofs.Conduct.{Walked, walk, new_calm}
use Rattle.storm_model.proofs.Shown.{contents_is}

pub walked : (v : ℕ) (log : List (VbCall × VbReply)) → IsStorming v log → Walked log (storm_new v) []
walked v log s = walk log (storm_new v) [] s.legal s.calls s.puts (new_calm v) (let r = s.room in omega arith)

pub stores_stand : StoresStand
stores_stand = record {
  made = λ v log s. (walked v log s).seqs;
  high = λ v log s. (walked v log s).calm.high;
  shown = λ v log s. contents_is (image_in (behind v log)) (ledger (map put_in (stores log))) (walked v log s).calm.docs;
}
