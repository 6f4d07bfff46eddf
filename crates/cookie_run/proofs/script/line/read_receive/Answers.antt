use Rattle.std.proofs.Common.{◌≡◌, ◌∙◌, ◌≤◌, List, ℕ, [], ◌∷◌, true, length, drop, get_or, arith, Some, Ok, Err, ℤ}
use Rattle.std.proofs.Common.{ap, subst, sym}
use Rattle.std.specs.Prelude.{map, ◌&&◌, if◌then◌else◌}
use Rattle.std.specs.Str.{is_utf8}
use Rattle.std.proofs.lemmas.List.{take_rest}
use Rattle.jiff.specs.Words.{civil_nanos}
use Rattle.url.specs.Parts.{Parts}
use Rattle.cookie_client.specs.Moment.{moment_of}
use Rattle.cookie_client.specs.Hosts.{url_of}
use Rattle.cookie_run.specs.ScriptLine.{placed, read_receive, Receives}
use Rattle.cookie_run.specs.declared.script.cause.Cause.TheVariants.{Text}
use Rattle.cookie_run.proofs.script.line.read_receive.Goals as goal

receive_read : {A : Type 0} (view : A → List ℕ) (fields : List A) (x y : A) (url : Parts) (at : ℤ)
    → 2 ≤ length fields → x ≡ get_or fields 0 x → y ≡ get_or fields 1 y → is_utf8 (view x) ≡ true
    → is_utf8 (view y) ≡ true → url_of (view x) ≡ Some url → moment_of (view y) ≡ Some at
    → read_receive (map view fields) ≡ Ok (Receives url (map view (drop 2 fields)) at)
receive_read view [] x y url at low is_x is_y first second u m = absurd (omega (arith, low))
receive_read view (a ∷ []) x y url at low is_x is_y first second u m = absurd (omega (arith, low))
receive_read view (a ∷ b ∷ more) x y url at low is_x is_y first second u m =
    (λ i. read_receive (view (sym is_x i) ∷ view (sym is_y i) ∷ map view more))
    ∙ (λ i. if first i && second i then placed (λ v t. Receives v (map view more) t) (u i) (m i) else Err Text)

pub returns-in_ok-lines-in-len2-up : goal.returns-in_ok-lines-in-len2-up
returns-in_ok-lines-in-len2-up c =
    let url = c.in_ok-url-in-len2-up-2.url in
    let at = civil_nanos c.in_ok-at-in-len2-up-2.at.date in
    let lines = c.in_ok-lines-in-len2-up.ensures.lines
    ∙ ap (map (λ field. field.items)) (take_rest c.args.fields.now 2) in
    receive_read (λ field. field.items) c.args.fields.now c.url-item-2.result c.at-item.result url at
    c.in-len2-up.len_at_least c.url-item-2.is c.at-item.is
    (subst (λ bs. is_utf8 bs ≡ true) c.deref-in-len2-up.ensures.value c.in_ok-url-in-len2-up.ensures.utf8)
    (subst (λ bs. is_utf8 bs ≡ true) c.deref-in-len2-up-2.ensures.value c.in_ok-at-in-len2-up.ensures.utf8)
    (subst (λ bs. url_of bs ≡ Some url)
    (c.in_ok-url-in-len2-up.ensures.text ∙ c.deref-in-len2-up.ensures.value) c.in_ok-url-in-len2-up-2.ensures.url)
    (subst (λ bs. moment_of bs ≡ Some at)
    (c.in_ok-at-in-len2-up.ensures.text ∙ c.deref-in-len2-up-2.ensures.value) c.in_ok-at-in-len2-up-2.ensures.at)
    ∙ ap (λ ls. Ok (Receives url ls at)) (sym lines)
