mod ChainLines
