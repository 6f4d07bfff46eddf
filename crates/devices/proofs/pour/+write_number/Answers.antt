use Rattle.std.proofs.Common.{◌∷◌, [], ◌+◌, ◌/◌, ◌%◌, sym, subst, arith}
use Rattle.std.specs.Prelude.{decimal, OnOk}
use Rattle.std.specs.Io.KnownBytes.{Appends}
use Rattle.std.proofs.lemmas.Fmt.{decimal_step}
use Rattle.devices.proofs.Pouring.{appends_both, last_digit}
use Rattle.devices.proofs.pour.+write_number.Goals as goal
use Rattle.devices.proofs.pour.+write_number.Goals.{then-n-ge10+in_ok-write_number, else-n-ge10}

pub returns-clause-bytes : goal.returns-clause-bytes
returns-clause-bytes g t c =
    let n = c.args.n in
    elim c.if-n-ge10.branch [
      | then-n-ge10+in_ok-write_number w ↦
          appends_both c.write_all.result _ (g.W.Sink.written c.if-n-ge10.writer) _ (decimal (n / 10))
          ((48 + n % 10) ∷ []) (decimal n)
          (subst (λ x. Appends (g.W.Sink.written c.args.writer.now) (g.W.Sink.written x) (decimal (n / 10)))
          (sym w.writer-is) w.in_ok-write_number.ensures.bytes)
          c.write_all.ensures.bytes (decimal_step n (omega arith) (omega arith))
      | else-n-ge10 w ↦
          subst (λ ds. OnOk c.write_all.result (Appends (g.W.Sink.written c.args.writer.now)
          (g.W.Sink.written c.write_all.new.writer) ds)) (last_digit n (omega arith))
          (subst (λ x. OnOk c.write_all.result (Appends (g.W.Sink.written x) (g.W.Sink.written c.write_all.new.writer)
          ((48 + n % 10) ∷ []))) w.writer-is c.write_all.ensures.bytes)
    ]
