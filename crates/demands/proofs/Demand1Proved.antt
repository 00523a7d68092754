-- The proof of `Demand1`.
use Rattle.std.proofs.Common.{ap, ◌∙◌}
use Rattle.clause_sizes.specs.Targets.{last, kept}
use Rattle.hoa_text.proofs.ReadBack.{read_back}
use Rattle.hoa_read.specs.Told as hoa
use Rattle.solver_text.specs.Machine.{told}
use Rattle.solver_agreement.specs.Staying.{refused_run, refused_end}
use Rattle.solver_agreement.specs.MidText.{piece_refused_exactly}
use Rattle.decode.specs.Texts.{text_answer}
use Rattle.demands.proofs.HoaJudged.{reader_judged, reader_valid, writer_judged}
use Rattle.demands.proofs.ComparisonJudged.{comparison_judged}
use Rattle.demands.proofs.ClausesJudged.{header_judged, step_judged, line_judged, lines_judged}
use Rattle.demands.proofs.SolverTextJudged.{reading_judged, fault_place, fault_number, whole_judged}
use Rattle.demands.proofs.DecoderJudged.{decoder_judged}
use Rattle.demands.proofs.SearchJudged.{start_judged, told_judged, found_judged}
use Rattle.demands.specs.Demand1.{ReadsHoa, ReadsSolverText, Demand1}

reads_hoa : ReadsHoa
reads_hoa = record { judged = reader_judged; valid = reader_valid; every = λ a v r e. e ∙ ap hoa.told (read_back a v) }

reads_solver_text : ReadsSolverText
reads_solver_text = record {
  piece = λ a τ r u e c. reading_judged a τ r _ e c;
  finish = λ a τ r e c. reading_judged a τ r _ e c;
  whole = λ a τ v d us q e k c. whole_judged a τ v d us q e k c;
  mid_text = λ a τ v d us q u e k c. piece_refused_exactly v d k u c;
  stays = λ a τ r c v i d t. (
    λ u e k. k.text v i d ∙ ap told (refused_run (last a τ) (kept a τ) r (fault_place r c t) u),
    λ e k. k.text v i d ∙ ap told (refused_end (last a τ) (kept a τ) r (fault_place r c t)),
  );
  number = fault_number;
}

pub demand_1 : Demand1
demand_1 = record {
  hoa = reads_hoa;
  write = writer_judged;
  compare = λ a b prefix prefix-after loop loop-after answer c. comparison_judged c;
  header = header_judged;
  step = step_judged;
  line = line_judged;
  lines = lines_judged;
  solver_text = reads_solver_text;
  decode = λ prefix prefix-after loop loop-after answer a τ r c. decoder_judged c;
  decode_text = λ prefix prefix-after loop loop-after answer a τ h g v d us r k c. text_answer v d h g k c;
  start = λ a r k. start_judged k;
  none = λ s r k. told_judged k;
  unknown = λ s r k. told_judged k;
  found = λ s table prefix prefix-after loop loop-after r k. found_judged k;
}
