-- What stays of the parameters of a call that takes four texts beside its handle.
use Rattle.fonnalich_c.proofs.Steps.{[], ◌∷◌, Stays, stay_dropped, yes, plain}
use denote.Builtin.{u8}
use denote.Exit.{left}
use denote.Signature.{mut_slice_of}
use Rattle.fonnalich_c.specs.contracts.fonnalich_one as f

abbrev pub stayed : Stays f.ended.signature.params f.ended.kept
stayed = (
  stay_dropped _ yes,
  (
    stay_dropped _ yes,
    (
      stay_dropped _ yes,
      (
        stay_dropped _ yes,
        (
          stay_dropped _ yes,
          (
            stay_dropped _ yes,
            (
              stay_dropped _ yes,
              (
                record {
                  fit = λ κs x w. Unit {0};
                  has = λ κs x w vs. left (((mut_slice_of {n = 4} (3 ∷
                      []) tt (plain (λ _. u8))).row κs).exit yes) x w;
                },
                tt,
              ),
            ),
          ),
        ),
      ),
    ),
  ),
)
