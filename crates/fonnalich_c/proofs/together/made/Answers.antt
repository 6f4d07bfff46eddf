use Rattle.std.proofs.Common.{◌∙◌, subst}
use Rattle.fonnalich_c.specs.Faults.{IsFirst}
use Rattle.fonnalich_c.specs.Parts.{IsMade, IsUnmade}
use Rattle.fonnalich_c.proofs.Exchanges.{err_gives}
use Rattle.fonnalich_c.proofs.Faults.{is_end, site_unmade, text_unmade}
use Rattle.fonnalich_c.proofs.Parting.{made_of}
use Rattle.fonnalich_c.proofs.together.made.Goals as goal

pub returns-clause-ok : goal.returns-clause-ok
returns-clause-ok c =
    subst (λ texts. IsMade c.args.attributes.now texts c.put_end.new.cookie.cookie) c.texts.view_is
    (made_of c.args.attributes.now _ c.in_ok-site.site c.in_ok-end.end _ _ _ _ c.new-cookie.result
    c.put_path.new.cookie c.put_domain.new.cookie c.put_attributes.new.cookie c.put_end.new.cookie c.new-cookie.ensures
    c.put_path.ensures c.put_domain.ensures c.put_attributes.ensures c.put_end.ensures c.in_ok-name.ensures.ok
    c.in_ok-value.ensures.ok c.in_ok-path.ensures.ok c.in_ok-domain.ensures.ok c.in_ok-site.ensures.ok
    c.in_ok-end.ensures.ok)

pub returns-in_err-name-clause-err : goal.returns-in_err-name-clause-err
returns-in_err-name-clause-err c =
    err_gives c.from_residual-in_err-name.result _ _ c.from_residual-in_err-name.ensures (λ refused is.
    subst (λ texts. IsFirst (IsUnmade c.args.attributes.now texts) refused) c.texts.view_is
    (text_unmade c.args.attributes.now _ refused
    (is_end c.args.attributes.now.has_expires c.args.attributes.now.expires c.in_ok-end.end c.in_ok-end.ensures.ok)
    (is ∙ c.in_err-name.ensures.err.0) (λ are. c.in_err-name.ensures.err.1 are.0)))

pub returns-in_err-value-clause-err : goal.returns-in_err-value-clause-err
returns-in_err-value-clause-err c =
    err_gives c.from_residual-in_err-value.result _ _ c.from_residual-in_err-value.ensures (λ refused is.
    subst (λ texts. IsFirst (IsUnmade c.args.attributes.now texts) refused) c.texts.view_is
    (text_unmade c.args.attributes.now _ refused
    (is_end c.args.attributes.now.has_expires c.args.attributes.now.expires c.in_ok-end.end c.in_ok-end.ensures.ok)
    (is ∙ c.in_err-value.ensures.err.0) (λ are. c.in_err-value.ensures.err.1 are.1)))

pub returns-in_err-path-clause-err : goal.returns-in_err-path-clause-err
returns-in_err-path-clause-err c =
    err_gives c.from_residual-in_err-path.result _ _ c.from_residual-in_err-path.ensures (λ refused is.
    subst (λ texts. IsFirst (IsUnmade c.args.attributes.now texts) refused) c.texts.view_is
    (text_unmade c.args.attributes.now _ refused
    (is_end c.args.attributes.now.has_expires c.args.attributes.now.expires c.in_ok-end.end c.in_ok-end.ensures.ok)
    (is ∙ c.in_err-path.ensures.err.0) (λ are. c.in_err-path.ensures.err.1 are.2)))

pub returns-in_err-domain-clause-err : goal.returns-in_err-domain-clause-err
returns-in_err-domain-clause-err c =
    err_gives c.from_residual-in_err-domain.result _ _ c.from_residual-in_err-domain.ensures (λ refused is.
    subst (λ texts. IsFirst (IsUnmade c.args.attributes.now texts) refused) c.texts.view_is
    (text_unmade c.args.attributes.now _ refused
    (is_end c.args.attributes.now.has_expires c.args.attributes.now.expires c.in_ok-end.end c.in_ok-end.ensures.ok)
    (is ∙ c.in_err-domain.ensures.err.0) (λ are. c.in_err-domain.ensures.err.1 are.3)))

pub returns-in_err-site-clause-err : goal.returns-in_err-site-clause-err
returns-in_err-site-clause-err c =
    err_gives c.from_residual-in_err-site.result _ _ c.from_residual-in_err-site.ensures (λ refused is.
    subst (λ texts. IsFirst (IsUnmade c.args.attributes.now texts) refused) c.texts.view_is
    (site_unmade c.args.attributes.now _ refused
    (is_end c.args.attributes.now.has_expires c.args.attributes.now.expires c.in_ok-end.end c.in_ok-end.ensures.ok)
    (c.in_ok-name.ensures.ok.1, c.in_ok-value.ensures.ok.1, c.in_ok-path.ensures.ok.1, c.in_ok-domain.ensures.ok.1)
    (is ∙ c.in_err-site.ensures.err.0, c.in_err-site.ensures.err.1)))
