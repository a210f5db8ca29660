use Rattle.std.proofs.Common.{rules}
use Rattle.bz_cert.specs.CertWriting.{HasFewItems}
use Rattle.bz_cert.proofs.ShortLists.{passing_is_short}
use Rattle.bz_cert.proofs.Written.{cert_writable}
use Rattle.bz_cert.proofs.writing.write_cert.Goals as goal

pub returns-clause-passing : goal.returns-clause-passing
returns-clause-passing c = λ some.
    let few : HasFewItems c.args.c.now = passing_is_short some.split c.args.c.now some.is_split c.requires c.in_ok-write_body.ensures.cut_indexes c.in_ok-write_body.ensures.node_indexes some.passes in
    record {
      shaped = c.requires;
      writable = cert_writable c.args.c.now c.in_ok-write_body.ensures.cut_indexes c.in_ok-write_body.ensures.node_indexes few;
      text_is = search rules;
    }
