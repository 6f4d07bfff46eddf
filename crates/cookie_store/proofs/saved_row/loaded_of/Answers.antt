use Rattle.std.proofs.Common.{◌∙◌, ap, sym, subst}
use Rattle.std.specs.Prelude.{Ok}
use Rattle.std.specs.Str.{IsUtf8}
use Rattle.cookie_text.specs.Reading.{ReadsPlain}
use Rattle.saved_text.specs.Saved.{IsCookieText}
use Rattle.cookie_store.specs.SavedRows.{domain_shown, IsDeathOf}
use Rattle.cookie_store.proofs.saved_row.loaded_of.Goals as goal

pub raw_of-requires : goal.raw_of-requires
raw_of-requires c = subst IsCookieText (sym c.as_str.ensures.value) c.requires

pub returns : goal.returns
returns c = λ t h.
    let (seen, utf8, reads, raw) = c.in_ok-raw_of.ensures in
    record {
      utf8 = subst IsUtf8 (c.as_str.ensures.value ∙ h.raw) utf8;
      seen = seen;
      reads = subst (λ text. ReadsPlain text (Ok seen)) (c.as_str.ensures.value ∙ h.raw) reads;
      raw = ap (λ s. s.raw) c.from_parts-2.ensures ∙ raw;
      path = ap (λ s. s.path.text) c.from_parts-2.ensures ∙ ap (λ p. p.text) c.from_parts.ensures ∙ h.path;
      from_attribute = ap (λ s. s.path.from_attribute) c.from_parts-2.ensures
          ∙ ap (λ p. p.from_attribute) c.from_parts.ensures ∙ h.from_attribute;
      domain = ap (λ s. domain_shown s.domain) c.from_parts-2.ensures ∙ c.loaded_domain.ensures ∙ h.domain;
      death = subst (λ s. IsDeathOf t.expires s.death) (sym c.from_parts-2.ensures)
          (c.loaded_expires.ensures t.expires h.expires);
    }
