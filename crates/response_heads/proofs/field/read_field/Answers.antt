use Rattle.std.proofs.Common.{◌≡◌, ◌∙◌, false, sym, ap}
use Rattle.std.specs.Prelude.{slice_index}
use Rattle.response_heads.specs.Lines.{is_token, is_white, trimmed}
use Rattle.response_heads.proofs.FieldLemmas.{fault-control, fault-name, fault-no_colon, fault-none, has_colon}
use Rattle.response_heads.proofs.FieldLemmas.{no_colon}
use Rattle.response_heads.proofs.field.read_field.Goals as goal

pub returns-in_default : goal.returns-in_default
returns-in_default c =
    let line = c.args.line.now in
    let white : is_white (slice_index line 0) ≡ false = sym c.begins_white.ensures ∙ c.if-begins_white.false in
    fault-no_colon line white (no_colon line (sym c.colon_in.ensures ∙ c.in_default.is))

pub returns-then-not-is_token : goal.returns-then-not-is_token
returns-then-not-is_token c =
    let line = c.args.line.now in
    let white : is_white (slice_index line 0) ≡ false = sym c.begins_white.ensures ∙ c.if-begins_white.false in
    let colon = has_colon line c.in-Some.at (sym c.colon_in.ensures ∙ c.in-Some.is) in
    fault-name line white colon.some (ap is_token colon.before ∙ (sym c.is_token.ensures ∙ c.if-not-is_token.true))

pub returns-then-has_control : goal.returns-then-has_control
returns-then-has_control c =
    let line = c.args.line.now in
    let white : is_white (slice_index line 0) ≡ false = sym c.begins_white.ensures ∙ c.if-begins_white.false in
    let colon = has_colon line c.in-Some.at (sym c.colon_in.ensures ∙ c.in-Some.is) in
    fault-control line white colon.some
    (ap is_token colon.before ∙ (sym c.is_token.ensures ∙ c.if-not-is_token.false))
    (sym c.has_control.ensures ∙ c.if-has_control.true)

pub returns : goal.returns
returns c =
    let line = c.args.line.now in
    let white : is_white (slice_index line 0) ≡ false = sym c.begins_white.ensures ∙ c.if-begins_white.false in
    let colon = has_colon line c.in-Some.at (sym c.colon_in.ensures ∙ c.in-Some.is) in
    record {
      fine = fault-none line white colon.some
          (ap is_token colon.before ∙ (sym c.is_token.ensures ∙ c.if-not-is_token.false))
          (sym c.has_control.ensures ∙ c.if-has_control.false);
      name = sym colon.before;
      value = c.trimmed.ensures ∙ ap trimmed (sym colon.after);
    }
