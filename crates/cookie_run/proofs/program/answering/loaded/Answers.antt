use Rattle.std.proofs.Common.{◌≡◌, ◌∙◌, ap, subst, false}
use Rattle.std.specs.Prelude.{◌⊎◌}
use Rattle.std.specs.Str.{IsUtf8}
use Rattle.jiff.specs.Words.{civil_nanos}
use Rattle.saved_text.specs.RonReading.{ShowsOnly}
use Rattle.cookie_store.specs.SavedTexts.{Loads}
use Rattle.cookie_client.specs.Loading.{IsNoSavedText}
use Rattle.cookie_run.specs.declared.program.failure.Failure.TheVariants.{StoreText, Memory}
use Rattle.cookie_run.proofs.ProgramFacts.{not_loaded}
use Rattle.cookie_run.proofs.program.answering.loaded.Goals as goal

pub returns-in-Ok-clause-ok : goal.returns-in-Ok-clause-ok
returns-in-Ok-clause-ok c =
    let loaded = c.in-Ok.ensures.ok in
    let utf8 = c.in-Ok.ensures.text in
    let held = ap (λ text. text.now) c.new.ensures.inner in
    let same = loaded.1 ∙ held in (
      c.in-Ok.ensures.suffixes,
      (
        subst IsUtf8 (utf8.1 ∙ held) utf8.2,
        (
          loaded.2.0,
          subst (λ text. Loads ShowsOnly false (civil_nanos c.args.at) text loaded.2.0) same loaded.2.1,
          loaded.2.2,
        ),
      ),
    )

pub returns-clause-err : goal.returns-clause-err
returns-clause-err c =
    let failure = c.unloaded.result in
    subst (λ text. (failure ≡ Memory) ⊎ ((failure ≡ StoreText) × IsNoSavedText text))
    (ap (λ text. text.now) c.new.ensures.inner)
    (not_loaded _ c.in-Err.cause failure _ _ _ c.unloaded.ensures c.in-Err.ensures.err)
