use Rattle.std.proofs.Common.{◌++◌, ap, codes, sym}
use Rattle.file_access.proofs.lemmas.Telling.{adds_as}
use Rattle.history_text.specs.Text.{kind_text}
use Rattle.history_text.proofs.entries.write_kind.Goals as goal

pub returns-in-Start : goal.returns-in-Start
returns-in-Start g c = adds_as (ap (λ kind. codes " " ++ kind_text kind) (sym c.in-Start.is)) c.write_numbered.ensures

pub returns-in-Skip : goal.returns-in-Skip
returns-in-Skip g c = adds_as (ap (λ kind. codes " " ++ kind_text kind) (sym c.in-Skip.is)) c.write_numbered-in-Skip.ensures

pub returns-in-Submit : goal.returns-in-Submit
returns-in-Submit g c = adds_as (ap (λ kind. codes " " ++ kind_text kind) (sym c.in-Submit.is)) c.write_numbered-in-Submit.ensures

pub returns-in-Park : goal.returns-in-Park
returns-in-Park g c = adds_as (ap (λ kind. codes " " ++ kind_text kind) (sym c.in-Park.is)) c.write_numbered-in-Park.ensures

pub returns-in-Resume : goal.returns-in-Resume
returns-in-Resume g c = adds_as (ap (λ kind. codes " " ++ kind_text kind) (sym c.in-Resume.is)) c.write_numbered-in-Resume.ensures

pub returns-in-Claim : goal.returns-in-Claim
returns-in-Claim g c = adds_as (ap (λ kind. codes " " ++ kind_text kind) (sym c.in-Claim.is)) c.write_numbered-in-Claim.ensures

pub returns-in-End : goal.returns-in-End
returns-in-End g c = adds_as (ap (λ kind. codes " " ++ kind_text kind) (sym c.in-End.is)) c.write_numbered-in-End.ensures
